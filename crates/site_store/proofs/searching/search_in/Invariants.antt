use Rattle.std.specs.Prelude.{IsTrue}
use Rattle.host_types.specs.Site.{Site}
use Rattle.site_store.specs.Represented.{RepresentedBy}
use Rattle.site_store.specs.StoreReads.{StoreReadsOnly, NoneFailed}
use Rattle.site_store.specs.Searching.{IsLeftBehind}
use Rattle.site_store.specs.WordWalks.{IsKeyOf}
use Rattle.site_store.proofs.searching.search_in.Given as goal

-- the items with the word above the last one are left
abbrev pub invariant-loop : goal.invariant-loop
invariant-loop g l =
    let store_state = g.K.Keeper.store_state in
    record {
      only : StoreReadsOnly store_state g.K.Keeper.may_need g.K.Keeper.crash_states l.fn.keeper l.keeper;
      none : NoneFailed (store_state l.fn.keeper) (store_state l.keeper);
      last : IsKeyOf l.keys.word.now l.last;
      left : IsTrue (store_state l.fn.keeper).honest → (s : Site) → RepresentedBy (store_state l.fn.keeper) s → IsLeftBehind l.now s l.keys l.asked l.found.items l.last;
    }
