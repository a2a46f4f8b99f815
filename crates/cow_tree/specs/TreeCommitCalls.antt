-- How a keeper of a tree writes a commit.
use Rattle.std.specs.Prelude.{◌≡◌, ℕ, true, List, Result, IsTrue, OnOk}
use Rattle.common_types.specs.CrashStates.{CrashStates}
use Rattle.sector_device.specs.Device.{State}
use Rattle.page_store.specs.Batch.{updated}
use Rattle.page_store.specs.Sectors.{Image}
use Rattle.page_store.specs.StoreState.{SoManyPages}
use Rattle.page_store.specs.declared.banner.Banner.{Banner}
use Rattle.page_store.specs.declared.edit.Edit.{Edit}
use Rattle.page_store.specs.declared.fault.KeeperFault.{KeeperFault}
use Rattle.cow_tree.specs.Committed.{WritesOnePlan, WritesNoPinnedPage}
use Rattle.cow_tree.specs.TreeSeen.{held, needs, takes}
use Rattle.cow_tree.specs.Work.{WritesPages}
use Rattle.cow_tree.specs.declared.tree_keeper.TreeKeeper.{TreeKeeper}

-- By one plan, on whose way each crash leaves the image, and by no page that a pinned tree has. So many pages as the batch needs and a root are written, with two syncs.
pub record WritesTree {D T : Type 0} {dict : _} (state : D → State) (crash_states : TreeKeeper D dict → CrashStates Image) (old new : TreeKeeper D dict) (batch : List Edit) (given : Banner) (result : Result T KeeperFault) : Type 0 where
  pub between : IsTrue (held state old).honest → (held state old).usable ≡ true → WritesOnePlan (crash_states old) (crash_states new) (state old.device).disk.view old.slot old.top old.pinned (λ n. needs state old batch (SoManyPages n)) (updated (held state old).pairs batch) given
  pub unheld : IsTrue (held state old).honest → (held state old).usable ≡ true → WritesNoPinnedPage old.pinned (state old.device).disk.view (state new.device).disk.view (crash_states old) (crash_states new)
  pub written : OnOk result ((n : ℕ) × (IsTrue (held state old).honest → needs state old batch (SoManyPages n)) × WritesPages n (state old.device) (state new.device))

-- The same of writing all pairs anew. On every device, honest or not, the new root tells as many pairs as the old one: where others were read, nothing is written.
pub record WritesTreeAnew {D T : Type 0} {dict : _} (state : D → State) (crash_states : TreeKeeper D dict → CrashStates Image) (old new : TreeKeeper D dict) (result : Result T KeeperFault) : Type 0 where
  pub between : IsTrue (held state old).honest → (held state old).usable ≡ true → WritesOnePlan (crash_states old) (crash_states new) (state old.device).disk.view old.slot old.top old.pinned (takes state old) (held state old).pairs (held state old).banner
  pub unheld : IsTrue (held state old).honest → (held state old).usable ≡ true → WritesNoPinnedPage old.pinned (state old.device).disk.view (state new.device).disk.view (crash_states old) (crash_states new)
  pub written : OnOk result ((n : ℕ) × (IsTrue (held state old).honest → takes state old n) × WritesPages n (state old.device) (state new.device))
  pub keys : OnOk result (new.slot.root.keys ≡ old.slot.root.keys)
