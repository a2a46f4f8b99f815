use Rattle.std.proofs.Common.{◌+◌, drop, length, sym, ◌∙◌, rules}
use Rattle.view_draws.specs.Source.{viewed_by}
use Rattle.view_draws.proofs.drawing.draw_chunk.Goals as goal

pub pass-requires-clause-fits : goal.pass-requires-clause-fits
pass-requires-clause-fits g c = c.from_place.ensures.fits

pub returns-clause-gives : goal.returns-clause-gives
returns-clause-gives g c =
    let body = viewed_by (g.S.SiteKeeper.site_state c.args.site.now) (g.S.SiteKeeper.pinned c.args.pin.now) c.args.source.now in
    record {
      same = c.load.ensures.same;
      passed = search rules;
      still_of = λ honest of. record { size = of.size ∙ sym c.load.ensures.same.size; chunk = c.load.ensures.chunk honest of.size of.chunk };
      given = λ honest of.
          let size = of.size ∙ sym c.load.ensures.same.size in
          let next = c.from_place.ensures.bytes body size (c.load.ensures.chunk honest of.size of.chunk) c.in_ok-load.ensures.loaded in
          c.pass.ensures.given body (drop (c.args.progress.now.taken + length c.from_place.result.now) body) next;
    }
