-- An image of some pairs in filled pages, the first of its generations.
use Rattle.std.specs.Prelude.{◌≡◌, ◌⊎◌, ◌≤◌, ◌<◌, ◌+◌, ◌-◌, ◌*◌, ℕ, true, List, [], length, Option, None, Some, IsTrue}
use Rattle.page_store.specs.Sizes.{least_pages, most_pages}
use Rattle.common_types.specs.Counts.{counted}
use Rattle.common_types.specs.CrashStates.{CrashStates}
use Rattle.sector_device.specs.Device.{State}
use Rattle.page_store.specs.Flat.{numbers_from}
use Rattle.page_store.specs.Sectors.{Image}
use Rattle.page_store.specs.Pages.{Pair}
use Rattle.page_store.specs.Batch.{is_map}
use Rattle.page_store.specs.Steps.{AllAre}
use Rattle.page_store.specs.Content.{HasContent, is_tree_version}
use Rattle.page_store.specs.Formatting.{IsFirst}
use Rattle.page_store.specs.Switch.{IsSlotPage}
use Rattle.page_store.specs.declared.banner.Banner.{Banner}
use Rattle.page_store.specs.declared.commit.NewPage.{NewPage}
use Rattle.page_store.specs.declared.fault.KeeperFault.{KeeperFault}
use Rattle.page_store.specs.declared.fault.KeeperFault.TheVariants as faults
use Rattle.page_store.specs.declared.slot.Slot.{Slot}
use Rattle.tree_nodes.specs.Growth.{owned_under}
use Rattle.tree_nodes.specs.Steps.{RootState}
use Rattle.tree_nodes.specs.Tree.{Tree}
use Rattle.tree_pages.specs.Written.{AddsTree, AllFit}
use Rattle.tree_loading.specs.Filled.{filled}
use Rattle.cow_tree.specs.TreeState.{unreached}
use Rattle.cow_tree.specs.Compacting.{IsFilledTree, most_pairs}
use Rattle.cow_tree.specs.Formatting.{IsFirstWritten}
use Rattle.filled_images.specs.declared.filled_image.FilledImage.{FilledImage}

-- how many pages these pairs take, filled
abbrev pub pages_for : List Pair → ℕ
pages_for pairs = owned_under (filled pairs).root

-- each node of a tree fits its page
abbrev pub RootFits : RootState → Type 0
RootFits state = (tree : Tree) → state.root ≡ Some tree → AllFit (state.height - 1) tree

-- A tree was made into pages of these numbers in the first generation, and its root stands at this one: 0 where there is none.
abbrev pub IsTreeMade : List ℕ → ℕ → Option Tree → List NewPage → ℕ → Type 0
IsTreeMade given height None pages n = (pages ≡ []) × (n ≡ 0)
IsTreeMade given height (Some tree) pages n = AddsTree given 1 (height - 1) [] pages tree n

-- the first root slot over the filled tree of these pairs, whose root stands at this page
abbrev pub filled_slot : ℕ → Banner → List Pair → ℕ → Slot
filled_slot count banner pairs tree = record { number = 0; seal = 1; root = record { pages = count; tree = tree; height = (filled pairs).height; keys = length pairs; banner = banner } }

-- What is to be written for an image of so many pages with these pairs under this banner: the filled tree on the pages from 2 on, and the slot over it.
pub record IsImageOf (count : ℕ) (banner : Banner) (pairs : List Pair) (image : FilledImage) : Type 0 where
  pub tree : IsTreeMade (numbers_from 2 (pages_for pairs)) (filled pairs).height (filled pairs).root image.pages.items image.slot.root.tree
  pub slot_is : image.slot ≡ filled_slot count banner pairs image.slot.root.tree
  pub page : (sectors : ℕ) → 8 * count ≤ sectors → IsSlotPage sectors image.slot image.root

-- Why it is not made: the image can't have so many pages, or they are too few for the pairs by these numbers, or memory lacks.
abbrev pub IsNotMade : ℕ → List Pair → KeeperFault → Type 0
IsNotMade count pairs faults.Device = ⊥
IsNotMade count pairs faults.NoImage = ⊥
IsNotMade count pairs faults.Version = ⊥
IsNotMade count pairs (faults.Damaged page) = ⊥
IsNotMade count pairs faults.Small = (count < least_pages) ⊎ (most_pages < count)
IsNotMade count pairs faults.Spent = ⊥
IsNotMade count pairs faults.Deep = ⊥
IsNotMade count pairs (faults.Full need free) = (least_pages ≤ count) × (count ≤ most_pages) × (need ≡ pages_for pairs) × (count ≡ free + 2) × (free < need)
IsNotMade count pairs faults.Failed = ⊥
IsNotMade count pairs faults.Memory = Unit {0}

-- The image has these pairs under this banner, in filled pages; it is the first of its generations, of so many pages, and leaves so many unreached.
pub record HasFilled (count : ℕ) (banner : Banner) (pairs : List Pair) (free : ℕ) (image : Image) : Type 0 where
  pub content : HasContent image pairs banner
  pub first : IsFirst count image
  pub filled_is : IsFilledTree first.slot image
  pub free_is : free ≡ unreached first.slot [] image

-- Its pages and its first slot are written, and a crash leaves just that.
abbrev pub IsSurelyWritten : FilledImage → Image → Image → CrashStates Image → Type 0
IsSurelyWritten filled old new crash_states = IsFirstWritten filled.pages.items filled.root old new × AllAre crash_states new

-- Of whatever pairs it is, and however many pages these leave: an image of them is there.
abbrev pub GivesFilled : FilledImage → Image → Type 0
GivesFilled filled image = (count free : ℕ) (banner : Banner) (pairs : List Pair) → is_map pairs ≡ true → length pairs ≤ most_pairs → IsTrue (is_tree_version banner.version) → IsImageOf count banner pairs filled → free + pages_for pairs + 2 ≡ count → HasFilled count banner pairs free image

-- Why it is not written: the device is too small for so many pages, or a write or a sync failed.
abbrev pub IsNotWritten : ℕ → State → State → KeeperFault → Type 0
IsNotWritten count old new faults.Device = ⊥
IsNotWritten count old new faults.NoImage = ⊥
IsNotWritten count old new faults.Version = ⊥
IsNotWritten count old new (faults.Damaged page) = ⊥
IsNotWritten count old new faults.Small = old.size < 8 * count
IsNotWritten count old new faults.Spent = ⊥
IsNotWritten count old new faults.Deep = ⊥
IsNotWritten count old new (faults.Full need free) = ⊥
IsNotWritten count old new faults.Failed = (new.failed_reads ≡ old.failed_reads) × (new.failed_writes ≡ counted old.failed_writes)
IsNotWritten count old new faults.Memory = ⊥
