use Rattle.std.proofs.Common.{◌≡◌, ℕ, List, IsTrue}
use Rattle.page_store.specs.Pages.{Pair}
use Rattle.page_store.specs.DeviceEffects.{IsReadCall}
use Rattle.page_store.specs.Steps.{crash_states_of}
use Rattle.tree_nodes.specs.Steps.{needed_under}
use Rattle.tree_nodes.specs.Needs.{needed_level}
use Rattle.tree_nodes.specs.OwnedTrees.{state_of}
use Rattle.cow_tree.specs.Drafts.{old_under, IsDraft, IsOnPath, OnlyRetires}
use Rattle.cow_tree.specs.Needs.{path_read}
use Rattle.page_store.specs.StoreState.{most_levels}
use Rattle.cow_tree.proofs.PathReads.{levels_left}
use Rattle.cow_tree.proofs.WorkDone.{ReadsSoFar}
use Rattle.cow_tree.proofs.drafts.own_path.Given as goal

abbrev pub invariant-loop-page : goal.invariant-loop-page
invariant-loop-page g l = record {
  draft : IsTrue (g.D.Device.state l.fn.device).honest → (edits : ℕ) (pairs : List Pair) → IsDraft l.slot (g.D.Device.state l.fn.device).disk.view edits 0 pairs l.fn.ledger (state_of l.fn.tree) →
      (read : ℕ) × IsDraft l.slot (g.D.Device.state l.fn.device).disk.view edits read pairs l.ledger (state_of l.tree) × IsOnPath l.slot l.key read (state_of l.tree) × (state_of l.tree ≡ path_read (old_under l.slot (g.D.Device.state l.fn.device).disk.view) l.key read (state_of l.fn.tree));
  height : l.tree.height ≡ l.fn.tree.height;
  ledger : OnlyRetires l.fn.ledger l.ledger;
  device : IsReadCall g.D.Device.state (crash_states_of g.D.Device.moment g.D.Device.possible_since) l.fn.device l.device;
  reads : (g.D.Device.state l.device).failed_reads ≡ (g.D.Device.state l.fn.device).failed_reads;
  work : ReadsSoFar (levels_left (needed_under l.key (state_of l.tree).root) (needed_level l.key (state_of l.tree))) most_levels (g.D.Device.state l.fn.device) (g.D.Device.state l.device);
}

abbrev pub decreases-loop-page : goal.decreases-loop-page
decreases-loop-page g l = levels_left (needed_under l.key (state_of l.tree).root) (needed_level l.key (state_of l.tree))
