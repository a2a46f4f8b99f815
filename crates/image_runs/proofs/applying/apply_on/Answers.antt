use Rattle.std.proofs.Common.{true, sym, subst, ap, ◌∙◌, ◌-◌, take, rules}
use Rattle.std.specs.Prelude.{IsTrue, OnOk}
use Rattle.host_types.specs.CrashStates.{AddsOnly}
use Rattle.host_types.specs.Counting.{writes_after}
use Rattle.cow_tree.specs.TreeSeen.{device_of}
use Rattle.page_store.specs.Steps.{crash_states_of}
use Rattle.site_store.specs.Seen.{seen_site}
use Rattle.change_file.specs.Applied.{RepresentsFront}
use Rattle.host_on_disk.specs.ImageSites.{ImageRepresents}
use Rattle.image_runs.specs.ImageChanges.{HasMadeChanges}
use Rattle.image_runs.proofs.Made.{on_ok_too, err_too, reads_on_device}
use Rattle.image_runs.proofs.applying.apply_on.Goals as goal

pub returns-clause-applied : goal.returns-clause-applied
returns-clause-applied g c = λ honest.
    let states = crash_states_of g.D.Device.moment g.D.Device.possible_since in
    let opened = c.in-Ok.ensures.opened in
    let first = seen_site c.in-Ok.site in
    let changes = c.args.changes.items in
    let answer = c.apply_over-applied.result.0 in
    let over = c.apply_over-applied.ensures.applied (subst IsTrue (sym opened.honest) honest) in
    let back = c.into_device.ensures ∙ ap (λ k. device_of k) c.into_keeper.ensures.keeper in
    record {
      site = first;
      stands = c.in-Ok.ensures.site honest;
      alone = c.in-Ok.ensures.alone honest;
      opened = c.in-Ok.site.keeper.device;
      no_new_crash_state = opened.at_crash honest;
      all = subst (λ d. OnOk answer (HasMadeChanges ImageRepresents (states d) first changes c.args.now)) (sym back) over.all;
      before = λ e is other. subst (λ d. HasMadeChanges ImageRepresents (states d) first (take (e.number - 1) changes) c.args.now) (sym back) (over.before e is other);
      at_crash = subst (λ d. AddsOnly (states c.in-Ok.site.keeper.device) (states d) (RepresentsFront ImageRepresents first changes c.args.now)) (sym back) over.at_crash;
    }

pub returns-clause-stopped : goal.returns-clause-stopped
returns-clause-stopped g c = err_too c.apply_over-applied.result.0
    (λ e is. record {
      opened = c.in-Ok.site;
      closed = c.apply_over-applied.result.1;
      shows = c.in-Ok.ensures.site;
      counted = c.in-Ok.ensures.opened.counts;
      usable = c.in-Ok.ensures.opened.usable;
      stops = is;
      handed = c.into_device.ensures ∙ ap (λ k. device_of k) c.into_keeper.ensures.keeper;
    })
    c.apply_over-applied.ensures.stopped.stopped

pub returns-clause-counts : goal.returns-clause-counts
returns-clause-counts g c =
    let state = g.D.Device.state in
    let opened = c.in-Ok.ensures.opened in
    let back = c.into_device.ensures ∙ ap (λ k. device_of k) c.into_keeper.ensures.keeper in
    record {
      counts = on_ok_too c.apply_over-applied.result.0
          (λ is. record {
            reads = ap (λ d. (state d).failed_reads) back ∙ is.reads ∙ opened.counts.reads;
            writes = ap (λ d. (state d).failed_writes) back ∙ is.writes ∙ opened.counts.writes;
          })
          c.apply_over-applied.ensures.made.counts;
      counts_fault = err_too c.apply_over-applied.result.0
          (λ e is. record {
            reads = reads_on_device _ _ e.fault _ _ _ _ opened.honest opened.counts.reads (ap (λ d. (state d).failed_reads) back) is.reads;
            writes = ap (λ d. (state d).failed_writes) back ∙ is.writes ∙ ap (λ usable. writes_after usable e.fault (state c.in-Ok.site.keeper.device).failed_writes) opened.usable ∙ ap (λ count. writes_after true e.fault count) opened.counts.writes;
          })
          c.apply_over-applied.ensures.stopped.counts;
      honest = search rules;
    }

pub into_keeper-requires : goal.into_keeper-requires
into_keeper-requires g c = record { unpinned = c.apply_over-applied.ensures.pins ∙ c.in-Ok.ensures.opened.none_pinned }
