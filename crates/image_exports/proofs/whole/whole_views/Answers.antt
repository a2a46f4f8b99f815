use Rattle.std.proofs.Common.{Ok, sym, subst, ◌∙◌, arith, IsTrue}
use Rattle.image_exports.proofs.Looked.{as_value, then}
use Rattle.image_exports.proofs.Viewed.{is_there, one_more, stands}
use Rattle.image_exports.proofs.whole.whole_views.Goals as goal

pub whole_view-requires-clause-stands : goal.whole_view-requires-clause-stands
whole_view-requires-clause-stands g c = λ still.
    let state = g.S.SiteKeeper.site_state in
    let only = c.loop-place.invariant.only in
    let honest = subst IsTrue only.looked.honest still in
    let found = c.requires.stands honest in
    let card = c.index-cards-place.result in
    let at = stands found.0 c.args.cards.now c.loop-place.place card found.1.0 (omega (arith, c.loop-place-test.true)) c.index-cards-place.is in
    (at.0, is_there (state c.args.site.now).site (state c.loop-place.site).site c.args.selector.now c.args.cards.now found.0 c.loop-place.place card at.0 (only.looked.site honest) found.1 at.1)

pub loop-place-preserved : goal.loop-place-preserved
loop-place-preserved g c =
    let state = g.S.SiteKeeper.site_state in
    let only = c.loop-place.invariant.only in
    let one = c.in_ok-whole_view.field-0 in
    record {
      only = then state g.S.SiteKeeper.crash_states c.args.site.now c.loop-place.site c.whole_view.new.site tt (Ok tt) only (as_value state g.S.SiteKeeper.crash_states c.loop-place.site c.whole_view.new.site one tt c.in_ok-whole_view.ensures.looks);
      so_far = λ honest all are.
          let card = c.index-cards-place.result in
          let at = stands all c.args.cards.now c.loop-place.place card are.0 (omega (arith, c.loop-place-test.true)) c.index-cards-place.is in
          let there = is_there (state c.args.site.now).site (state c.loop-place.site).site c.args.selector.now c.args.cards.now all c.loop-place.place card at.0 (only.looked.site honest) are at.1 in
          c.in_ok-push.ensures.ok ∙ one_more all c.loop-place.views c.loop-place.place card at.0 one at.1 (c.loop-place.invariant.so_far honest all are) (c.in_ok-whole_view.ensures.whole (subst IsTrue (sym only.looked.honest) honest) at.0 there);
    }
