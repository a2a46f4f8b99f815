-- What a keeper of flat pages is.
use Rattle.std.specs.Prelude.{None, ◌-◌, ◌==◌, if◌then◌else◌, Bool, ◌≡◌, ◌≤◌, ◌<◌, ◌*◌, ◌+◌, ℕ, List, [], Some, true, IsTrue, length}
use Rattle.page_store.specs.Sizes.{most_pages}
use Rattle.sector_device.specs.Disk.{Disk, IsImage}
use Rattle.page_store.specs.Pages.{Pair}
use Rattle.page_store.specs.Roots.{current, greatest_seal}
use Rattle.page_store.specs.Flat.{half_size, is_half, numbers_from}
use Rattle.page_store.specs.Content.{Found, content}
use Rattle.page_store.specs.Batch.{is_map, updated}
use Rattle.page_store.specs.Encoding.{by_pages, pages_needed, flat_pages}
use Rattle.page_store.specs.declared.edit.Edit.{Edit}
use Rattle.sector_device.specs.Device.{State, OneCounted}
use Rattle.common_types.specs.CrashStates.{CrashStates}
use Rattle.page_store.specs.Sectors.{Image}
use Rattle.page_store.specs.Steps.{AllAre}
use Rattle.page_store.specs.declared.fault.KeeperFault.{KeeperFault}
use Rattle.page_store.specs.declared.fault.KeeperFault.TheVariants as faults
use Rattle.page_store.specs.Commit.{Commit, IsBetween}
use Rattle.page_store.specs.StoreState.{StoreState, CommitNeed, OnlyPages}
use Rattle.page_store.specs.ReadFaults.{MayBeNamed}
use Rattle.page_store.specs.declared.banner.Banner.{Banner}
use Rattle.page_store.specs.declared.slot.Root.{Root}
use Rattle.page_store.specs.declared.slot.Slot.{Slot}

-- the pairs under a slot, with the pages of its half
abbrev pub found_in_half : Slot → List Pair → Found
found_in_half slot pairs = record { pages = numbers_from slot.root.tree (half_size slot.root.pages); pairs = pairs }

-- a slot of an image on a device of so many sectors, and its pairs
pub record IsFitted (sectors : ℕ) (slot : Slot) (pairs : List Pair) : Type 0 where
  pub number : slot.number < 2
  pub least : 16 ≤ slot.root.pages
  pub most : slot.root.pages ≤ most_pages
  pub fits : 8 * slot.root.pages ≤ sectors
  pub half : is_half slot.root ≡ true
  pub version : slot.root.banner.version ≡ 0
  pub map : is_map pairs ≡ true

-- each image of the disk is what reads give, and that has the pairs; no seal is above the top
pub record CrashStatesDoRepresent (disk : Disk) (slot : Slot) (pairs : List Pair) (top : ℕ) : Type 0 where
  pub images : (c : List (List ℕ)) → IsImage disk c → c ≡ disk.view
  pub content : content disk.view ≡ Some (slot, found_in_half slot pairs)
  pub seals : greatest_seal disk.view 16 ≤ top

-- how many pages a batch needs
abbrev pub NeedsPages : List Pair → List Edit → ℕ → Type 0
NeedsPages pairs batch need = need ≡ pages_needed (updated pairs batch)

-- what a batch may need: pages alone
abbrev pub FlatNeeds : List Pair → List Edit → CommitNeed → Type 0
FlatNeeds pairs batch need = OnlyPages (NeedsPages pairs batch) need

-- the first page of the other half
abbrev pub other_half : Root → ℕ
other_half root = if root.tree == 2 then 2 + half_size root.pages else 2

-- what a commit writes into the other slot
abbrev pub new_root : Root → List Pair → Banner → Root
new_root root pairs banner = record { pages = root.pages; tree = other_half root; height = 0; keys = length pairs; banner = banner }

abbrev pub new_slot : Slot → ℕ → List Pair → Banner → Slot
new_slot slot seal pairs banner = record { number = 1 - slot.number; seal = seal; root = new_root slot.root pairs banner }

-- the commit that a keeper of flat pages makes
abbrev pub flat_commit : Slot → List Pair → ℕ → List Pair → Banner → Commit
flat_commit slot pairs seal now banner = record { old = slot; old_found = found_in_half slot pairs; new = new_slot slot seal now banner; new_found = found_in_half (new_slot slot seal now banner) now }

-- What a crash within a commit of a batch and a banner may leave: the pairs of the batch go to the other half, page after page, and one generation above the top goes to the other slot.
abbrev pub IsFlatBetween : Slot → List Pair → ℕ → Image → List Edit → Banner → Image → Type 0
IsFlatBetween slot pairs top view batch banner =
    IsBetween (flat_commit slot pairs (top + 1) (updated pairs batch) banner) (flat_pages (top + 1) (other_half slot.root) (by_pages (updated pairs batch))) view

-- a keeper as it is seen through its trait
abbrev pub flat_holding : State → Slot → List Pair → ℕ → Bool → StoreState
flat_holding state slot pairs top usable = record {
  pairs = pairs;
  banner = slot.root.banner;
  honest = state.honest;
  usable = usable;
  failed_reads = state.failed_reads;
  failed_writes = state.failed_writes;
  generation = slot.seal;
  top = top;
  free = half_size slot.root.pages;
  height = 0;
  keys = length pairs;
  made = state.made;
  pins = [];
}

-- ---- opening

-- What was opened.
pub record IsFlatOpened (old new : State) (crash_states : CrashStates Image) (slot : Slot) (top : ℕ) : Type 0 where
  pub all : IsTrue old.honest → AllAre crash_states new.disk.view
  pub view : IsTrue old.honest → new.disk.view ≡ old.disk.view
  pub slot_is : IsTrue old.honest → current old.disk.view ≡ Some slot
  pub top_is : IsTrue old.honest → greatest_seal old.disk.view 16 ≡ top

-- What was opened, and its pairs.
pub record HasOpened (old new : State) (crash_states : CrashStates Image) (slot : Slot) (pairs : List Pair) (top : ℕ) : Type 0 where
  pub all : IsTrue old.honest → AllAre crash_states new.disk.view
  pub view : IsTrue old.honest → new.disk.view ≡ old.disk.view
  pub content_is : IsTrue old.honest → content old.disk.view ≡ Some (slot, found_in_half slot pairs)
  pub top_is : IsTrue old.honest → greatest_seal old.disk.view 16 ≡ top

-- the current slot is of flat pages
abbrev pub IsFlat : Image → Slot → Type 0
IsFlat image slot = (current image ≡ Some slot) × (slot.root.banner.version ≡ 0)

-- Why no current slot of flat pages was found, by the image that was read.
abbrev pub IsSlotFault : State → KeeperFault → Type 0
IsSlotFault old faults.Device = Unit {0}
IsSlotFault old faults.NoImage = IsTrue old.honest → current old.disk.view ≡ None
IsSlotFault old faults.Version = IsTrue old.honest → (slot : Slot) × (current old.disk.view ≡ Some slot) × (0 < slot.root.banner.version)
IsSlotFault old other = ⊥

-- Why an opening was refused, by the image as it was read before it. No two of these hold of one image, but for a device that fails and for lack of memory.
abbrev pub IsOpenFault : State → State → KeeperFault → Type 0
IsOpenFault old new faults.Small = old.size < 128
IsOpenFault old new faults.Device = (128 ≤ old.size) × OneCounted old new
IsOpenFault old new faults.NoImage = (128 ≤ old.size) × (IsTrue old.honest → current old.disk.view ≡ None)
IsOpenFault old new faults.Version = (128 ≤ old.size) × (IsTrue old.honest → (slot : Slot) × (current old.disk.view ≡ Some slot) × (0 < slot.root.banner.version))
IsOpenFault old new (faults.Damaged page) = (128 ≤ old.size) × (IsTrue old.honest → (slot : Slot) × IsFlat old.disk.view slot × (content old.disk.view ≡ None) × MayBeNamed slot page)
IsOpenFault old new faults.Memory = (128 ≤ old.size) × (IsTrue old.honest → (slot : Slot) × IsFlat old.disk.view slot)
IsOpenFault old new faults.Spent = ⊥
IsOpenFault old new faults.Deep = ⊥
IsOpenFault old new (faults.Full need free) = ⊥
IsOpenFault old new faults.Failed = ⊥
