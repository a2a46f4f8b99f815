use Rattle.std.proofs.Common.{◌≡◌, ◌*◌, length, false}
use Rattle.page_store.specs.Work.{ReadsPages, pages_tried}
use Rattle.std.specs.Prelude.{IsTrue}
use Rattle.site_store.specs.StoreReads.{StoreReadsOnly, NoneFailed}
use Rattle.site_store.specs.Opening.{AreFirst, ValuesFit, KeysFit}
use Rattle.site_store.proofs.opening.pairs_of.Given as goal

abbrev pub invariant-loop : goal.invariant-loop
invariant-loop g l =
    let store_state = g.K.Keeper.store_state in
    record {
      only : StoreReadsOnly store_state g.K.Keeper.may_need g.K.Keeper.crash_states l.fn.keeper l.keeper;
      none : NoneFailed (store_state l.fn.keeper) (store_state l.keeper);
      first : IsTrue (store_state l.fn.keeper).honest → AreFirst l.pairs.items (store_state l.fn.keeper).pairs;
      fit : ValuesFit l.pairs.items;
      keys : KeysFit l.pairs.items;
      work : ReadsPages (length l.pairs.items * pages_tried (store_state l.fn.keeper).height) (store_state l.fn.keeper).made (store_state l.keeper).made;
      shut : (store_state l.fn.keeper).usable ≡ false → l.counter ≡ 0;
    }
