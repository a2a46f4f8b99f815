use Rattle.std.proofs.Common.{List, ◌++◌, ◌∷◌, [], sym, ap, subst, ◌∙◌}
use Rattle.host_types.specs.declared.view.View.{View}
use Rattle.page_store.specs.Pages.{Pair}
use Rattle.site_store.specs.ReadLaws.{none_later}
use Rattle.site_store.specs.StoreReads.{HasViews}
use Rattle.site_store.proofs.AfterReads.{fails, read_on}
use Rattle.site_store.proofs.LocalReads.{fault_later}
use Rattle.site_store.proofs.DecodedViews.{one_view, its_part, next_view, next_cards}
use Rattle.site_store.proofs.items.read_views.Goals as goal

pub returns-in-Err-clause-views : goal.returns-in-Err-clause-views
returns-in-Err-clause-views g c =
    let store_state = g.V.ValueLookup.store_state in
    let only = c.loop-place.invariant.only in
    let view = c.in-Err.ensures.view in
    fails (read_on only view.only) (fault_later (store_state c.args.from.now) (store_state c.loop-place.from) (store_state c.read_view.new.from) c.in-Err.fault only.read c.loop-place.invariant.none
    (λ honest known.
    let has = subst (λ (ps : List Pair). HasViews ps c.args.selector.now c.args.cards.now known.0) (sym (only.read.same.pairs honest)) known.1 in
    let one = one_view (store_state c.loop-place.from).pairs c.args.selector.now c.args.cards.now known.0 c.loop-place.place c.index-cards-place.result has c.loop-place-test.true c.index-cards-place.is in
    (one.view, (one.seen, its_part (store_state c.loop-place.from).pairs c.args.selector.now c.args.cards.now known.0 c.loop-place.place c.index-cards-place.result has one))) view.fault)

pub loop-place-preserved : goal.loop-place-preserved
loop-place-preserved g c =
    let store_state = g.V.ValueLookup.store_state in
    let inv = c.loop-place.invariant in
    let read = inv.only.read in
    let view = c.in-Ok.ensures.view in
    record {
      only = read_on inv.only view.only;
      none = none_later (store_state c.args.from.now) (store_state c.loop-place.from) (store_state c.read_view.new.from) inv.none view.none;
      views = λ honest vs before.
          let has = subst (λ (ps : List Pair). HasViews ps c.args.selector.now c.args.cards.now vs) (sym (read.same.pairs honest)) before in
          let one = one_view (store_state c.loop-place.from).pairs c.args.selector.now c.args.cards.now vs c.loop-place.place c.index-cards-place.result has c.loop-place-test.true c.index-cards-place.is in
          let part = its_part (store_state c.loop-place.from).pairs c.args.selector.now c.args.cards.now vs c.loop-place.place c.index-cards-place.result has one in
          next_view vs c.push.new.self c.loop-place.place c.index-cards-place.result c.in-Ok.view one (view.gives (read.honest ∙ honest) one.view (one.seen, part)) (c.in_ok-push-in-Ok.ensures.ok ∙ ap (λ (l : List View). l ++ c.in-Ok.view ∷ []) (inv.views honest vs before));
      cards = next_cards c.args.cards.now c.loop-place.views c.push.new.self c.loop-place.place c.index-cards-place.result c.in-Ok.view c.loop-place-test.true c.index-cards-place.is c.in-Ok.ensures.card c.in_ok-push-in-Ok.ensures.ok inv.cards;
    }
