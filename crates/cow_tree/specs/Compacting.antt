-- Writing all pairs of a tree anew, in filled pages.
use Rattle.std.specs.Prelude.{◌≡◌, ◌≤◌, ◌*◌, ℕ, length, Result, IsTrue, IfErr}
pub use Rattle.page_store.specs.Sizes.{most_pairs}
use Rattle.common_types.specs.CrashStates.{CrashStates}
use Rattle.sector_device.specs.Device.{State}
use Rattle.page_alloc.specs.LedgerState.{LedgerState}
use Rattle.page_store.specs.Sectors.{Image}
use Rattle.page_store.specs.declared.slot.Slot.{Slot}
use Rattle.page_store.specs.declared.fault.KeeperFault.{KeeperFault}
use Rattle.page_store.specs.declared.fault.KeeperFault.TheVariants as faults
use Rattle.tree_nodes.specs.Growth.{owned_under}
use Rattle.tree_loading.specs.Filled.{filled}
use Rattle.cow_tree.specs.TreeState.{found_under}
use Rattle.cow_tree.specs.Drafts.{IsCountedRead}
use Rattle.cow_tree.specs.Plans.{IsPlanned, IsTreeFault, IsRoomFault}
use Rattle.cow_tree.specs.declared.plans.Plan.{Plan}

-- Writing the pairs of the tree under a slot anew takes so many pages: one for each node of the filled tree.
pub record NeedsFilled (slot : Slot) (image : Image) (need : ℕ) : Type 0 where
  pub exact : need ≡ owned_under (filled (found_under slot image).pairs).root
  pub most : need ≤ 2 * length (found_under slot image).pairs

-- the same on a device in this state, which has to be honest
abbrev pub MayNeedFilled : Slot → State → ℕ → Type 0
MayNeedFilled slot state need = IsTrue state.honest → NeedsFilled slot state.disk.view need

-- The tree under a slot of an image is in filled pages: it has as many levels, and as many pages as nodes, as the filled tree of its pairs.
pub record IsFilledTree (slot : Slot) (image : Image) : Type 0 where
  pub levels : slot.root.height ≡ (filled (found_under slot image).pairs).height
  pub pages : length (found_under slot image).pages ≡ owned_under (filled (found_under slot image).pairs).root

-- Pages and a root over them that may be committed, after which the tree has the same pairs in filled pages.
pub record IsFillPlan (view : Image) (slot : Slot) (top : ℕ) (ledger : LedgerState) (plan : Plan) : Type 0 where
  pub planned : IsPlanned view slot top (found_under slot view).pairs ledger plan
  pub levels : plan.slot.root.height ≡ (filled (found_under slot view).pairs).height
  pub pages : length planned.found.pages ≡ owned_under (filled (found_under slot view).pairs).root

-- the faults of reading all pairs
abbrev pub IsPairsFault : KeeperFault → Type 0
IsPairsFault faults.Device = Unit {0}
IsPairsFault other = IsTreeFault other

-- A call that reads pairs of a tree: of the device only reads are made, and only these faults come.
pub record ReadsPairs {T D : Type 0} (state : D → State) (crash_states : D → CrashStates Image) (old new : D) (result : Result T KeeperFault) : Type 0 where
  pub counted : IsCountedRead state crash_states old new result
  pub fault : IfErr result IsPairsFault

-- the faults of a plan that writes all pairs anew, where so many pages are free and so many may be needed
abbrev pub IsFillFault : ℕ → (ℕ → Type 0) → KeeperFault → Type 0
IsFillFault free may_need faults.Device = Unit {0}
IsFillFault free may_need other = IsRoomFault free may_need other
