-- What planning and writing a commit of a tree takes and gives.
use Rattle.std.specs.Prelude.{◌≡◌, ◌≤◌, ◌<◌, ◌+◌, ◌-◌, ◌*◌, ◌^◌, min, ℕ, true, All, List, length, Result, IsTrue, OnOk, OnErr}
use Rattle.common_types.specs.CrashStates.{CrashStates, AddsOnly}
use Rattle.sector_device.specs.Device.{State}
use Rattle.sector_device.specs.declared.device.DeviceFault.{DeviceFault}
use Rattle.page_alloc.specs.Calls.{abandoned, advanced}
use Rattle.page_alloc.specs.LedgerState.{LedgerState}
use Rattle.page_store.specs.Batch.{is_map, updated}
use Rattle.page_store.specs.Commit.{IsBetween}
use Rattle.page_store.specs.Content.{is_tree_version}
use Rattle.page_store.specs.Pages.{Pair}
use Rattle.page_store.specs.Same.{Agree}
use Rattle.page_store.specs.Sectors.{Image, page_of}
use Rattle.page_store.specs.Switch.{IsSlotPage}
use Rattle.page_store.specs.declared.banner.Banner.{Banner}
use Rattle.page_store.specs.declared.edit.Edit.{Edit}
use Rattle.page_store.specs.declared.slot.Slot.{Slot}
use Rattle.page_store.specs.declared.fault.KeeperFault.{KeeperFault}
use Rattle.tree_loading.specs.Filled.{filled}
use Rattle.tree_nodes.specs.Growth.{owned_under}
use Rattle.tree_nodes.specs.OwnedTrees.{state_of}
use Rattle.cow_tree.specs.Committed.{MayWritePlan, IsCommitted}
use Rattle.cow_tree.specs.Compacting.{most_pairs, NeedsFilled, IsFillPlan}
use Rattle.cow_tree.specs.Drafts.{OnlyMarks, IsCounted, TellsDraft, MayBeTooDeep}
use Rattle.cow_tree.specs.Needs.{NeedsTreePages, GetsTooDeep}
use Rattle.cow_tree.specs.PinnedTrees.{HeldPagesStay, PinnedStay}
use Rattle.cow_tree.specs.Plans.{levels_of, tree_commit, IsHeld, IsMade, IsPlanned, Starts}
use Rattle.cow_tree.specs.TreeState.{FitsTree, IsFittedSlot, IsThere, found_under}
use Rattle.cow_tree.specs.declared.drafts.Draft.{Draft}
use Rattle.cow_tree.specs.declared.plans.Plan.{Plan}

-- ---- what is planned over

-- A slot of a tree, and the ledger of its pages.
pub record HasLedgerOf (slot : Slot) (ledger : LedgerState) : Type 0 where
  pub fitted : IsFittedSlot slot
  pub lives : length ledger.lives ≡ slot.root.pages

-- The same where each page has a mark.
pub record HasMarksOf (slot : Slot) (ledger : LedgerState) : Type 0 where
  pub fitted : IsFittedSlot slot
  pub lives : length ledger.lives ≡ slot.root.pages
  pub marked : length ledger.marks ≡ slot.root.pages

-- A later generation, and a banner for its root.
pub record IsNextRoot (slot : Slot) (seal : ℕ) (banner : Banner) : Type 0 where
  pub later : slot.seal < seal
  pub port : 0 < banner.port

-- The same over a tree on a device of so many sectors.
pub record MayPlan (sectors : ℕ) (slot : Slot) (ledger : LedgerState) (seal : ℕ) (banner : Banner) : Type 0 where
  pub fitted : FitsTree sectors slot ledger
  pub later : slot.seal < seal
  pub port : 0 < banner.port

-- Pairs that a filled tree may have.
pub record MayBeFilled (pairs : List Pair) : Type 0 where
  pub map : is_map pairs ≡ true
  pub few : length pairs ≤ most_pairs

-- ---- what a plan is

-- A plan for which so many pages are enough.
pub record PlansWithin (slot : Slot) (seal : ℕ) (given : Banner) (free : ℕ) (plan : Plan) : Type 0 where
  pub made : IsMade slot seal given plan
  pub room : length plan.pages.items ≤ free

-- The plan of a draft: a page for each node that it owns, and a root over as many levels and keys.
pub record PlansDraft (slot : Slot) (seal : ℕ) (given : Banner) (draft : Draft) (free : ℕ) (plan : Plan) : Type 0 where
  pub made : IsMade slot seal given plan
  pub room : length plan.pages.items ≤ free
  pub enough : min (owned_under (state_of draft.tree).root) (2 ^ 64 - 1) ≤ free
  pub used : length plan.pages.items ≡ owned_under (state_of draft.tree).root
  pub levels : plan.slot.root.height ≡ levels_of (state_of draft.tree)
  pub keys : plan.slot.root.keys ≡ draft.keys

-- The plan of these pairs in filled pages, under the same banner.
pub record PlansPairs (slot : Slot) (seal : ℕ) (pairs : List Pair) (free : ℕ) (plan : Plan) : Type 0 where
  pub made : IsMade slot seal slot.root.banner plan
  pub fits : owned_under (filled pairs).root ≤ free
  pub room : length plan.pages.items ≤ free
  pub count : length plan.pages.items ≡ owned_under (filled pairs).root
  pub levels : plan.slot.root.height ≡ (filled pairs).height
  pub keys : plan.slot.root.keys ≡ length pairs

-- A draft over the tree of the current slot is planned: pages for the nodes that it owns, and a root over them.
abbrev pub PlansPages : Slot → ℕ → Banner → Draft → LedgerState → LedgerState → Result Plan KeeperFault → Type 0
PlansPages slot seal given draft before after result = (view : Image) (top edits : ℕ) (pairs : List Pair) → IsHeld view slot top before → IsCounted slot view edits pairs before draft → seal ≡ top + 1 → IsTrue (is_tree_version given.version) →
    TellsDraft (Unit {0}) result (IsPlanned view slot top pairs after)

-- A batch on the tree of the current slot is planned, with as many pages as it needs; or it gives the tree too many levels.
abbrev pub PlansBatch : Slot → Image → ℕ → Banner → List Edit → LedgerState → LedgerState → Result Plan KeeperFault → Type 0
PlansBatch slot view seal given batch before after result = (top : ℕ) (pairs : List Pair) → IsHeld view slot top before → Starts slot view pairs before → seal ≡ top + 1 → IsTrue (is_tree_version given.version) →
    TellsDraft (MayBeTooDeep slot (length batch) × GetsTooDeep slot view batch) result (λ plan. IsPlanned view slot top (updated pairs batch) after plan × NeedsTreePages slot view batch (length plan.pages.items))

-- so many pages does a batch need on the tree under a slot
abbrev pub NeedsFromStart : Slot → Image → List Edit → LedgerState → ℕ → Type 0
NeedsFromStart slot view batch before need = (pairs : List Pair) → Starts slot view pairs before → NeedsTreePages slot view batch need

-- All pairs of the tree of the current slot are planned anew, in filled pages.
abbrev pub PlansFilled : Slot → Image → ℕ → LedgerState → LedgerState → Result Plan KeeperFault → Type 0
PlansFilled slot view seal before after result = (top : ℕ) → IsHeld view slot top before → IsThere view slot before → seal ≡ top + 1 →
    TellsDraft ⊥ result (λ plan. IsFillPlan view slot top after plan × NeedsFilled slot view (length plan.pages.items))

-- Of a ledger only marks have changed, and nothing where the plan is refused.
pub record MarksOrStays {T : Type 0} (old new : LedgerState) (result : Result T KeeperFault) : Type 0 where
  pub marks : OnlyMarks old new
  pub refused : OnErr result (new ≡ old)

-- ---- the writing of a plan

-- A device of so many sectors has the pages of a plan and its slot, and the plan has the slot's page.
pub record HasPlaceFor (sectors : ℕ) (plan : Plan) : Type 0 where
  pub pages : All (λ page. 8 * page.number + 8 ≤ sectors) plan.pages.items
  pub number : 8 * plan.slot.number + 8 ≤ sectors
  pub page : IsSlotPage sectors plan.slot plan.root

-- A plan that may be written is written: once it is done every image shows it, and else the pages of the tree are as they were. Pages that a pin keeps stay in either case, and a crash leaves an image on the way.
pub record WritesPlan {D T : Type 0} (state : D → State) (crash_states : D → CrashStates Image) (old new : D) (slot : Slot) (before after : LedgerState) (plan : Plan) (result : Result T DeviceFault) : Type 0 where
  pub done : IsTrue (state old).honest → (w : MayWritePlan (state old).disk.view (crash_states old) slot before plan) → OnOk result (IsCommitted (state new).disk.view (crash_states new) plan after w.planned.found)
  pub kept : IsTrue (state old).honest → MayWritePlan (state old).disk.view (crash_states old) slot before plan → OnErr result (Agree (found_under slot (state old).disk.view).pages (page_of (state old).disk.view) (page_of (state new).disk.view))
  pub held : IsTrue (state old).honest → MayWritePlan (state old).disk.view (crash_states old) slot before plan → HeldPagesStay before (page_of (state old).disk.view) (page_of (state new).disk.view)
  pub at_crash : IsTrue (state old).honest → (w : MayWritePlan (state old).disk.view (crash_states old) slot before plan) → AddsOnly (crash_states old) (crash_states new) (IsBetween (tree_commit slot (state old).disk.view plan.slot w.planned.found) plan.pages.items (state old).disk.view)

-- The ledger goes on to the generation of a plan that was written, and is else as before the commit.
pub record AdvancesLedger {T : Type 0} (old new : LedgerState) (seal : ℕ) (result : Result T DeviceFault) : Type 0 where
  pub advanced_is : OnOk result (new ≡ advanced seal old)
  pub pinned : OnOk result (PinnedStay old new)
  pub abandoned_is : OnErr result (new ≡ abandoned old)
