use Rattle.std.proofs.Common.{false, arith, rules}
use Rattle.view_draws.specs.Counting.{HasKnownSize}
use Rattle.group_hub.proofs.CountedCalls.{read_fault_counts, drawn_counted}
use Rattle.group_hub.proofs.drawing.draw_view.Goals as goal

pub returns-in-Err-clause-draws : goal.returns-in-Err-clause-draws
returns-in-Err-clause-draws g c =
    let s = g.S.SiteKeeper in
    let a = s.site_state c.args.site.now in
    let b = s.site_state c.draw.new.site in
    let drawing = c.args.drawing.now in
    let kept = c.draw.ensures.reads.only.kept in
    let reads = drawn_counted a.honest (HasKnownSize a (s.pinned drawing.pin) drawing.view.source) c.in-Err.fault a.failed_reads b.failed_reads (λ honest. (c.requires.sound honest).0.size) c.in-Err.ensures.reads.counts in
    record {
      gives = search rules;
      phase = search rules;
      err = search rules;
      waits = search rules;
      kept = record { site = kept.site; honest = kept.honest; usable = kept.usable; reads = kept.reads; writes = kept.writes; free = omega (arith, kept.free) };
      fault = search rules;
      counts = read_fault_counts false c.in-Err.fault c.of_site.result a b c.requires.usable c.of_site.ensures kept (c.in-Err.ensures.reads.fault (λ honest. (c.requires.sound honest).0.size)) reads;
      at_crash = search rules;
      within = search rules;
      behind = search rules;
      begun = search rules;
      untouched = search rules;
    }
