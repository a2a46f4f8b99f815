use Rattle.std.specs.Prelude.{◌*◌, IsTrue}
use Rattle.page_store.specs.Work.{ReadsPages, pages_tried}
use Rattle.host_types.specs.Site.{Site}
use Rattle.site_store.specs.Represented.{RepresentedBy}
use Rattle.site_store.specs.StoreReads.{StoreReadsOnly, NoneFailed}
use Rattle.site_store.specs.Counting.{ItemsSoFar}
use Rattle.site_store.proofs.figures.items_in.Given as goal

-- the items up to the selector are counted
abbrev pub invariant-loop-counted : goal.invariant-loop-counted
invariant-loop-counted g l =
    let store_state = g.K.Keeper.store_state in
    record {
      only : StoreReadsOnly store_state g.K.Keeper.may_need g.K.Keeper.crash_states l.fn.keeper l.keeper;
      work : ReadsPages (l.counted * pages_tried (store_state l.fn.keeper).height) (store_state l.fn.keeper).made (store_state l.keeper).made;
      none : NoneFailed (store_state l.fn.keeper) (store_state l.keeper);
      counted : IsTrue (store_state l.fn.keeper).honest → (s : Site) → RepresentedBy (store_state l.fn.keeper) s → ItemsSoFar s l.counted l.selector;
    }
