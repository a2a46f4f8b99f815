use Rattle.std.proofs.Common.{◌≡◌, List, map, take}
use Rattle.std.specs.Prelude.{IsTrue}
use Rattle.host_types.specs.Card.{card_view}
use Rattle.host_types.specs.declared.view.View.{View}
use Rattle.site_store.specs.StoreReads.{StoreReadsOnly, NoneFailed, HasViews}
use Rattle.site_store.proofs.items.read_views.Given as goal

abbrev pub invariant-loop-place : goal.invariant-loop-place
invariant-loop-place g l =
    let store_state = g.V.ValueLookup.store_state in
    record {
      only : StoreReadsOnly store_state g.V.ValueLookup.may_need g.V.ValueLookup.crash_states l.fn.from l.from;
      none : NoneFailed (store_state l.fn.from) (store_state l.from);
      views : IsTrue (store_state l.fn.from).honest → (vs : List View) → HasViews (store_state l.fn.from).pairs l.selector l.cards vs → l.views ≡ take l.place vs;
      cards : map card_view l.views ≡ take l.place l.cards;
    }
