-- What a commit of a tree leaves, whether it is done or fails.
use Rattle.std.specs.Prelude.{◌≡◌, ◌⊎◌, ◌≤◌, ℕ, false, List, length, Option, Some, IsTrue}
use Rattle.common_types.specs.CrashStates.{CrashStates, AddsOnly, AddsNone, may_crash_to}
use Rattle.page_alloc.specs.LedgerState.{LedgerState}
use Rattle.page_store.specs.Sectors.{Image}
use Rattle.page_store.specs.Roots.{current, greatest_seal}
use Rattle.page_store.specs.Pages.{Pair}
use Rattle.page_store.specs.Steps.{AllAre}
pub use Rattle.page_store.specs.Content.{is_tree_version}
use Rattle.page_store.specs.Content.{Found, HasContent, is_among}
use Rattle.page_store.specs.Commit.{IsBetween, numbers}
use Rattle.page_store.specs.declared.commit.NewPage.{NewPage}
use Rattle.page_store.specs.declared.banner.Banner.{Banner}
use Rattle.page_store.specs.declared.slot.Slot.{Slot}
use Rattle.tree_pages.specs.Reached.{times}
use Rattle.cow_tree.specs.PinnedTrees.{keep_page, PinnedPagesStay}
use Rattle.cow_tree.specs.TreeState.{IsThere, found_under}
use Rattle.cow_tree.specs.Plans.{tree_commit, IsHeld, IsTreePlan, IsPlanned}
use Rattle.cow_tree.specs.declared.plans.Plan.{Plan}
use Rattle.cow_tree.specs.declared.tree_root.TreeRoot.{TreeRoot}

-- An image has these pairs and this banner, in the version of trees.
abbrev pub TreeHas : Image → List Pair → Banner → Type 0
TreeHas image pairs banner = HasContent image pairs banner × IsTrue (is_tree_version banner.version)

-- A plan that may be written on an image that is sure, of a tree whose pages the ledger has.
pub record MayWritePlan (view : Image) (crash_states : CrashStates Image) (slot : Slot) (ledger : LedgerState) (plan : Plan) : Type 0 where
  pub top : ℕ
  pub pairs : List Pair
  pub held : IsHeld view slot top ledger
  pub planned : IsPlanned view slot top pairs ledger plan
  pub version : IsTrue (is_tree_version slot.root.banner.version)
  pub sure : AllAre crash_states view

-- The plan is what every image shows, with this tree, and the ledger has the pages of it.
pub record IsCommitted (now : Image) (crash_states : CrashStates Image) (plan : Plan) (ledger : LedgerState) (found : Found) : Type 0 where
  pub all : AllAre crash_states now
  pub current_is : current now ≡ Some plan.slot
  pub there : IsThere now plan.slot ledger
  pub found_is : found_under plan.slot now ≡ found
  pub seals : greatest_seal now 16 ≤ plan.slot.seal

-- What a commit writes: new pages to places that neither the tree under the slot has nor one that a pin keeps, and a root over them for the other slot. The new tree has these
-- pairs. Its pages that are new are these, each once, and as many as may be needed; its other pages are pages of the tree from before.
pub record TreePlan (view : Image) (slot : Slot) (top : ℕ) (trees : List (Option TreeRoot)) (may_need : ℕ → Type 0) (pairs : List Pair) (banner : Banner) : Type 0 where
  pub pages : List NewPage
  pub new : Slot
  pub found : Found
  pub plan_is : IsTreePlan view slot top pages new found
  pub banner_is : new.root.banner ≡ banner
  pub pairs_are : found.pairs ≡ pairs
  pub unpinned : (n : ℕ) → IsTrue (is_among n (numbers pages)) → keep_page view trees n ≡ false
  pub needed : may_need (length pages)
  pub once : (n : ℕ) → times n (numbers pages) ≤ times n found.pages
  pub others : (n : ℕ) → IsTrue (is_among n found.pages) → is_among n (numbers pages) ≡ false → IsTrue (is_among n (found_under slot view).pages)

-- How a commit writes: nothing, or one plan, whichever crash comes. A crash leaves what one before the call might have left, or an image on the way from the slot to the other one:
-- no page of the tree from before is written, and what is current is the one slot or the other.
abbrev pub WritesOnePlan : CrashStates Image → CrashStates Image → Image → Slot → ℕ → List (Option TreeRoot) → (ℕ → Type 0) → List Pair → Banner → Type 0
WritesOnePlan before after view slot top trees may_need pairs banner =
    AddsNone before after ⊎ ((plan : TreePlan view slot top trees may_need pairs banner) × AddsOnly before after (λ c. may_crash_to before c ⊎ IsBetween (tree_commit slot view plan.new plan.found) plan.pages view c))

-- A call writes no page that one of these trees has: after it, and after a crash within it, each has the same bytes.
abbrev pub WritesNoPinnedPage : List (Option TreeRoot) → Image → Image → CrashStates Image → CrashStates Image → Type 0
WritesNoPinnedPage trees old new before after = PinnedPagesStay trees old new × AddsOnly before after (PinnedPagesStay trees old)
