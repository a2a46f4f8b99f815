use Rattle.std.proofs.Common.{◌≡◌, take, true}
use Rattle.std.specs.Prelude.{IsTrue}
use Rattle.std.specs.List.{list_all}
use Rattle.host_types.specs.Words.{words_of, is_among}
use Rattle.host_types.specs.declared.item.Item.{Item}
use Rattle.site_store.specs.StoreReads.{StoreReadsOnly, NoneFailed}
use Rattle.site_store.specs.WordWalks.{StandsWith}
use Rattle.site_store.proofs.word_walk.has_all.Given as goal

-- the item has the words so far
abbrev pub invariant-loop-other : goal.invariant-loop-other
invariant-loop-other g l =
    let store_state = g.K.Keeper.store_state in
    record {
      only : StoreReadsOnly store_state g.K.Keeper.may_need g.K.Keeper.crash_states l.fn.keeper l.keeper;
      none : NoneFailed (store_state l.fn.keeper) (store_state l.keeper);
      all : IsTrue (store_state l.fn.keeper).honest → (item : Item) → StandsWith l.selector l.word (store_state l.fn.keeper) item → list_all (is_among (words_of item)) (take l.other-index l.asked) ≡ true;
    }
