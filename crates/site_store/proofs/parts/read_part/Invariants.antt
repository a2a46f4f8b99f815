use Rattle.std.proofs.Common.{◌≡◌, ◌*◌, List, ℕ, length, take}
use Rattle.std.specs.Prelude.{IsTrue}
use Rattle.site_store.specs.StoreReads.{StoreReadsOnly, NoneFailed, IsPartOf, HasSize}
use Rattle.site_store.specs.Work.{MakesLookUps}
use Rattle.site_store.proofs.parts.read_part.Given as goal

abbrev pub invariant-loop-k : goal.invariant-loop-k
invariant-loop-k g l =
    let store_state = g.V.ValueLookup.store_state in
    record {
      only : StoreReadsOnly store_state g.V.ValueLookup.may_need g.V.ValueLookup.crash_states l.fn.from l.from;
      none : NoneFailed (store_state l.fn.from) (store_state l.from);
      bytes : IsTrue (store_state l.fn.from).honest → (p : List ℕ) → IsPartOf l.selector l.part l.size (store_state l.fn.from) p → l.bytes.items ≡ take (1000 * l.k) p;
      work : MakesLookUps l.k (store_state l.fn.from) (store_state l.from);
      size : HasSize (length l.bytes.items) (1000 * l.k) l.size;
    }
