use Rattle.std.proofs.Common.{◌≡◌, ◌≤◌, ◌<◌, ◌+◌, ◌*◌, ◌^◌, List, length, take, true, IsTrue}
use Rattle.sector_device.specs.Effects.{MadeAtMost}
use Rattle.page_store.specs.Pages.{Pair}
use Rattle.page_store.specs.Batch.{is_map, updated}
use Rattle.page_store.specs.DeviceEffects.{IsReadCall}
use Rattle.page_store.specs.Steps.{crash_states_of}
use Rattle.page_store.specs.StoreState.{most_levels}
use Rattle.tree_nodes.specs.OwnedTrees.{state_of}
use Rattle.cow_tree.specs.Drafts.{IsDraft, IsCounted, OnlyRetires, root_under}
use Rattle.cow_tree.specs.Needs.{drafted}
use Rattle.cow_tree.proofs.PathSteps.{LowUpTo}
use Rattle.cow_tree.proofs.drafts.draft_batch.Given as goal

abbrev pub invariant-loop-edit : goal.invariant-loop-edit
invariant-loop-edit g l = record {
  draft : IsTrue (g.D.Device.state l.fn.device).honest → (pairs : List Pair) → IsDraft l.slot (g.D.Device.state l.fn.device).disk.view 0 0 pairs l.fn.ledger (root_under l.slot) → l.slot.root.keys ≡ length pairs → is_map pairs ≡ true → length pairs + length l.batch < 2 ^ 64 →
      IsCounted l.slot (g.D.Device.state l.fn.device).disk.view l.edit-index (updated pairs (take l.edit-index l.batch)) l.ledger l.draft × (length (updated pairs (take l.edit-index l.batch)) ≤ length pairs + l.edit-index)
      × (state_of l.draft.tree ≡ drafted l.slot (g.D.Device.state l.fn.device).disk.view (take l.edit-index l.batch)) × LowUpTo l.slot (g.D.Device.state l.fn.device).disk.view l.batch l.edit-index;
  low : (state_of l.draft.tree).height ≤ most_levels;
  ledger : OnlyRetires l.fn.ledger l.ledger;
  device : IsReadCall g.D.Device.state (crash_states_of g.D.Device.moment g.D.Device.possible_since) l.fn.device l.device;
  reads : (g.D.Device.state l.device).failed_reads ≡ (g.D.Device.state l.fn.device).failed_reads;
  work : MadeAtMost (8 * (most_levels * l.edit-index)) 0 0 (g.D.Device.state l.fn.device) (g.D.Device.state l.device);
}
