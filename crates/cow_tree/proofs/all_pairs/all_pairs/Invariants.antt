use Rattle.std.proofs.Common.{◌≡◌, ◌≤◌, ◌-◌, length, Some, true, IsTrue}
use Rattle.page_store.specs.Sectors.{page_of}
use Rattle.page_store.specs.Batch.{is_map}
use Rattle.page_store.specs.Content.{Found, tree_found}
use Rattle.page_store.specs.DeviceEffects.{IsReadCall}
use Rattle.page_store.specs.PairsInOrder.{AreFirst}
use Rattle.page_store.specs.Steps.{crash_states_of}
use Rattle.cow_tree.specs.Opening.{bounds_under}
use Rattle.cow_tree.specs.KeptLeaves.{IsKeptLeaf}
use Rattle.cow_tree.specs.Compacting.{most_pairs}
use Rattle.cow_tree.proofs.all_pairs.all_pairs.Given as goal

abbrev pub invariant-loop-pairs : goal.invariant-loop-pairs
invariant-loop-pairs g l = record {
  first : IsTrue (g.D.Device.state l.fn.device).honest → (found : Found) → tree_found l.slot (page_of (g.D.Device.state l.fn.device).disk.view) ≡ Some found → AreFirst l.pairs.items found.pairs × IsKeptLeaf (page_of (g.D.Device.state l.fn.device).disk.view) (bounds_under l.slot) found l.kept;
  map : is_map l.pairs.items ≡ true;
  few : length l.pairs.items ≤ most_pairs;
  device : IsReadCall g.D.Device.state (crash_states_of g.D.Device.moment g.D.Device.possible_since) l.fn.device l.device;
  reads : (g.D.Device.state l.device).failed_reads ≡ (g.D.Device.state l.fn.device).failed_reads;
}

abbrev pub decreases-loop-pairs : goal.decreases-loop-pairs
decreases-loop-pairs g l = most_pairs - length l.pairs.items
