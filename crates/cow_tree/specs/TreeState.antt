-- What a keeper of a tree is, and what its callers see of it.
use Rattle.std.specs.Prelude.{IsTrue, ◌≡◌, ◌≤◌, ◌<◌, ◌*◌, ◌&&◌, ◌||◌, not, nat_le, ℕ, Bool, true, List, length, Option, Some}
use Rattle.page_store.specs.Sizes.{most_pages}
use Rattle.sector_device.specs.Device.{State}
use Rattle.sector_device.specs.Disk.{Disk, IsImage}
use Rattle.page_alloc.specs.LedgerState.{LedgerState, is_alive, free_count, count_below}
use Rattle.page_alloc.specs.Calls.{unmarked as without_marks}
use Rattle.page_store.specs.Sectors.{Image, page_of}
use Rattle.page_store.specs.Roots.{current, greatest_seal}
use Rattle.page_store.specs.Batch.{is_map}
use Rattle.page_store.specs.Content.{is_tree_version, Found, tree_found, is_among}
use Rattle.page_store.specs.StoreState.{StoreState}
use Rattle.page_store.specs.declared.slot.Slot.{Slot}
use Rattle.cow_tree.specs.Opening.{IsRooted, LivePagesAreWhole}
use Rattle.cow_tree.specs.PinnedTrees.{or_nothing, pins_from, keep_page}
use Rattle.cow_tree.specs.declared.tree_root.TreeRoot.{TreeRoot}

-- The ledger is of the slot's image and generation, and no commit runs.
pub record IsAtRest (slot : Slot) (ledger : LedgerState) : Type 0 where
  pub pages : length ledger.lives ≡ slot.root.pages
  pub generation : ledger.generation ≡ slot.seal
  pub marked : length ledger.marks ≡ slot.root.pages
  pub unmarked : without_marks ledger.marks ≡ ledger.marks

-- a slot of an image of a tree
pub record IsFittedSlot (slot : Slot) : Type 0 where
  pub number : slot.number < 2
  pub least : 16 ≤ slot.root.pages
  pub most : slot.root.pages ≤ most_pages
  pub version : IsTrue (is_tree_version slot.root.banner.version)
  pub port : 0 < slot.root.banner.port
  pub rooted : IsRooted slot.root

-- a slot of an image of a tree on a device of so many sectors, and the ledger of its pages
pub record FitsTree (sectors : ℕ) (slot : Slot) (ledger : LedgerState) : Type 0 where
  pub number : slot.number < 2
  pub least : 16 ≤ slot.root.pages
  pub most : slot.root.pages ≤ most_pages
  pub fits : 8 * slot.root.pages ≤ sectors
  pub version : IsTrue (is_tree_version slot.root.banner.version)
  pub port : 0 < slot.root.banner.port
  pub rooted : IsRooted slot.root
  pub rest : IsAtRest slot ledger

-- the pages and the pairs of the tree under a slot of an image
abbrev pub found_under : Slot → Image → Found
found_under slot image = or_nothing (tree_found slot (page_of image))

-- how many pages of a slot's image neither one of these trees reaches nor the one under the slot, the root slots left out
abbrev pub unreached : Slot → List (Option TreeRoot) → Image → ℕ
unreached slot trees image = count_below (λ n. nat_le 2 n && not (keep_page image trees n || is_among n (found_under slot image).pages)) slot.root.pages

-- The tree under the slot stands in the image, and the ledger has exactly its pages, each of them whole.
pub record IsThere (image : Image) (slot : Slot) (ledger : LedgerState) : Type 0 where
  pub found_is : tree_found slot (page_of image) ≡ Some (found_under slot image)
  pub map : is_map (found_under slot image).pairs ≡ true
  pub alive : (n : ℕ) → is_alive ledger n ≡ is_among n (found_under slot image).pages
  pub whole : LivePagesAreWhole image ledger

-- Each image of the disk is what reads give; the slot is current there, and no seal is above the top.
pub record IsDurable (disk : Disk) (slot : Slot) (top : ℕ) : Type 0 where
  pub images : (c : List (List ℕ)) → IsImage disk c → c ≡ disk.view
  pub current_is : current disk.view ≡ Some slot
  pub seals : greatest_seal disk.view 16 ≤ top

-- a keeper as it is seen through its trait
abbrev pub tree_holding : State → Slot → LedgerState → ℕ → Bool → List (Option TreeRoot) → StoreState
tree_holding state slot ledger top usable trees = record {
  pairs = (found_under slot state.disk.view).pairs;
  banner = slot.root.banner;
  honest = state.honest;
  usable = usable;
  failed_reads = state.failed_reads;
  failed_writes = state.failed_writes;
  generation = slot.seal;
  top = top;
  free = free_count ledger;
  height = slot.root.height;
  keys = slot.root.keys;
  made = state.made;
  pins = pins_from state.disk.view 0 trees;
}
