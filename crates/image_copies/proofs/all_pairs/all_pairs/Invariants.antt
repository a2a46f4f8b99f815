use Rattle.std.proofs.Common.{◌≡◌, length, true, IsTrue}
use Rattle.common_types.specs.CrashStates.{AddsNone}
use Rattle.page_store.specs.Batch.{is_map}
use Rattle.page_store.specs.PairsInOrder.{AreFirst}
use Rattle.page_store.specs.Steps.{crash_states_of}
use Rattle.page_store.specs.StoreState.{StoreHasRead}
use Rattle.cow_tree.specs.TreeSeen.{held, device_of}
use Rattle.image_copies.proofs.all_pairs.all_pairs.Given as goal

abbrev pub invariant-loop : goal.invariant-loop
invariant-loop g l =
    let state = g.D.Device.state in
    let states = crash_states_of g.D.Device.moment g.D.Device.possible_since in
    record {
      only : StoreHasRead (held state l.fn.keeper) (held state l.keeper);
      none : (held state l.keeper).failed_reads ≡ (held state l.fn.keeper).failed_reads;
      first : IsTrue (held state l.fn.keeper).honest → AreFirst l.pairs.items (held state l.fn.keeper).pairs;
      map : is_map l.pairs.items ≡ true;
      many : length l.pairs.items ≡ l.counter;
      crash : IsTrue (held state l.fn.keeper).honest → AddsNone (states (device_of l.fn.keeper)) (states (device_of l.keeper));
    }
