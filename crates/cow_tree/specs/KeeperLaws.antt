-- What holds of each keeper of a tree.
use Rattle.std.specs.Prelude.{◌≡◌, ◌≤◌, ◌<◌, ℕ, zero, suc, List, [], ◌∷◌, length, Option, None, Some, IsTrue}
use Rattle.std.proofs.Common.{ap, sym, refl, ◌∙◌, arith}
use Rattle.sector_device.specs.Device.{State}
use Rattle.sector_device.specs.Disk.{Disk, IsImage}
use Rattle.page_alloc.specs.LedgerState.{LedgerState}
use Rattle.page_store.specs.Reading.{◌>>=◌}
use Rattle.page_store.specs.Sectors.{Image, page_of}
use Rattle.page_store.specs.Roots.{current}
use Rattle.page_store.specs.Content.{tree_found, tree_as, Found, content, content_under, pairs_and_banner}
use Rattle.page_store.specs.StoreState.{CommitNeed, SoManyPages, TooManyLevels, most_levels}
use Rattle.page_store.specs.declared.edit.Edit.{Edit}
use Rattle.page_store.specs.declared.slot.Root.{Root}
use Rattle.page_store.specs.declared.slot.Slot.{Slot}
use Rattle.page_store.proofs.Fields.{bind_again}
use Rattle.cow_tree.specs.Needs.{MayNeed}
use Rattle.cow_tree.specs.Opening.{IsRooted}
use Rattle.cow_tree.specs.PinnedTrees.{pins_from, ArePinned}
use Rattle.cow_tree.specs.declared.tree_root.TreeRoot.{TreeRoot}
use Rattle.cow_tree.specs.TreeState.{IsThere, IsDurable, found_under}
use Rattle.cow_tree.specs.Committed.{is_tree_version, TreeHas}

-- those versions are opened
pub opens_trees : (version : ℕ) → IsTrue (is_tree_version version) → IsTrue (is_tree_version version)
opens_trees version is = is

few : (height : ℕ) (P Q : Type 0) → (0 < height → (height ≤ 16) × P × Q) → height ≤ most_levels
few zero P Q f = omega arith
few (suc n) P Q f = (f (omega arith)).0

-- there are no more than 16 levels
pub few_levels : (root : Root) → IsRooted root → root.height ≤ most_levels
few_levels root rooted = few root.height (2 ≤ root.tree) (root.tree < root.pages) rooted

content_now : (image : Image) (slot : Slot) (found : Found) → current image ≡ Some slot → IsTrue (is_tree_version slot.root.banner.version) → tree_found slot (page_of image) ≡ Some found → content image ≡ Some (slot, found)
unfolding content content_under
content_now image slot found now version is =
    bind_again (current image) _ slot _ now (ap (λ (f : Option Found). f >>= λ x. Some (slot, x)) (tree_as slot.root.banner.version slot (page_of image) version ∙ is))

at_most : (image : Image) (number : ℕ) (trees : List (Option TreeRoot)) → length (pins_from image number trees) ≤ length trees
at_most image number [] = omega arith
at_most image number (None ∷ trees) = let rest = at_most image (suc number) trees in omega (arith, rest)
at_most image number (Some tree ∷ trees) = let rest = at_most image (suc number) trees in omega (arith, rest)

-- there are no more than 32 pins
pub few_out : (image : Image) (pages : ℕ) (ledger : LedgerState) (trees : List (Option TreeRoot)) → ArePinned pages ledger trees → length (pins_from image 0 trees) ≤ 32
few_out image pages ledger trees pins = let most = at_most image 0 trees in let count = pins.count in omega (arith, most, count)

-- a batch needs so many pages or too many levels, and not both
pub needs_one : (slot : Slot) (state : State) (batch : List Edit) (a b : CommitNeed) → IsTrue state.honest → MayNeed slot state batch a → MayNeed slot state batch b → a ≡ b
needs_one slot state batch (SoManyPages m) (SoManyPages n) honest first second = ap (λ (k : ℕ). SoManyPages k) ((first honest).exact ∙ sym (second honest).exact)
needs_one slot state batch (SoManyPages m) TooManyLevels honest first second = let low = (first honest).low (second honest).0 in let deep = (second honest).1 in absurd (omega (arith, low, deep))
needs_one slot state batch TooManyLevels (SoManyPages n) honest first second = let low = (second honest).low (first honest).0 in let deep = (first honest).1 in absurd (omega (arith, low, deep))
needs_one slot state batch TooManyLevels TooManyLevels honest first second = refl

-- each crash state of a usable keeper has its pairs and its banner
pub crash_states_have_the_tree : (disk : Disk) (slot : Slot) (ledger : LedgerState) (top : ℕ) → IsTrue (is_tree_version slot.root.banner.version) → IsThere disk.view slot ledger → IsDurable disk slot top → (c : Image) → IsImage disk c → TreeHas c (found_under slot disk.view).pairs slot.root.banner
crash_states_have_the_tree disk slot ledger top version there durable c image = (
  ap (λ (i : Image). pairs_and_banner (content i)) (durable.images c image) ∙ ap pairs_and_banner (content_now disk.view slot (found_under slot disk.view) durable.current_is version there.found_is),
  opens_trees slot.root.banner.version version,
)
