-- What an opening finds, and when it is refused.
use Rattle.std.specs.Prelude.{false, ◌≡◌, ◌⊎◌, ◌≤◌, ◌<◌, ℕ, length, Option, Some, None, Result, Ok, Err, IsTrue}
use Rattle.sector_device.specs.Sizes.{page_size}
use Rattle.common_types.specs.Counts.{counted}
use Rattle.common_types.specs.CrashStates.{CrashStates}
use Rattle.sector_device.specs.Device.{State, OneCounted}
use Rattle.page_alloc.specs.LedgerState.{LedgerState, is_alive}
use Rattle.page_alloc.specs.Calls.{fresh}
use Rattle.page_store.specs.Sectors.{Image, page_of}
use Rattle.page_store.specs.Roots.{current, greatest_seal}
use Rattle.page_store.specs.Steps.{AllAre}
use Rattle.page_store.specs.Content.{is_tree_version, Found, Bounds, content, is_among}
use Rattle.page_store.specs.declared.slot.Root.{Root}
use Rattle.page_store.specs.declared.slot.Slot.{Slot}
use Rattle.page_store.specs.declared.fault.KeeperFault.{KeeperFault}
use Rattle.page_store.specs.declared.fault.KeeperFault.TheVariants as faults
use Rattle.cow_tree.specs.Reached.{holding_all}
use Rattle.cow_tree.specs.NamedWalks.{tree_or_name}
use Rattle.cow_tree.specs.declared.page_fault.PageFault.{PageFault}
use Rattle.cow_tree.specs.declared.page_fault.PageFault.TheVariants.{Device, Damaged}

-- a fault of a page, as a store tells it
abbrev pub fault_of : PageFault → KeeperFault
fault_of Device = faults.Device
fault_of (Damaged page) = faults.Damaged page

-- the pages of a slot's image and its seal
abbrev pub bounds_under : Slot → Bounds
bounds_under slot = record { pages = slot.root.pages; seal = slot.seal }

-- where there is a tree, its root is a page of the image, and it has at most 16 levels
abbrev pub IsRooted : Root → Type 0
IsRooted root = 0 < root.height → (root.height ≤ 16) × (2 ≤ root.tree) × (root.tree < root.pages)

-- the slot itself, or a page of its image
abbrev pub MayNamePage : Slot → ℕ → Type 0
MayNamePage slot page = (page ≡ slot.number) ⊎ ((2 ≤ page) × (page < slot.root.pages))

abbrev pub MayName : Slot → PageFault → Type 0
MayName slot Device = Unit {0}
MayName slot (Damaged page) = MayNamePage slot page

-- a page that is damaged is the one that is named
abbrev pub IsNamed : Result Found ℕ → PageFault → Type 0
IsNamed what Device = Unit {0}
IsNamed what (Damaged page) = what ≡ Err page

-- The tree under a slot is there, and the ledger has exactly its pages.
pub record IsReached (what : Option Found) (slot : Slot) (ledger : LedgerState) : Type 0 where
  pub found : Found
  pub is : what ≡ Some found
  pub ledger_is : ledger ≡ holding_all (fresh slot.root.pages slot.seal) found.pages
  pub alive : (n : ℕ) → is_alive ledger n ≡ is_among n found.pages
  pub keys : slot.root.keys ≡ length found.pairs

-- what is known of the tree under a slot
abbrev pub Finds : {T : Type 0} → Option Found → Slot → LedgerState → Result T PageFault → Type 0
Finds what slot ledger (Ok _) = IsReached what slot ledger
Finds what slot ledger (Err Device) = Unit {0}
Finds what slot ledger (Err (Damaged page)) = what ≡ None

-- each page that is alive is a whole page of the image
abbrev pub LivePagesAreWhole : Image → LedgerState → Type 0
LivePagesAreWhole image ledger = (n : ℕ) → IsTrue (is_alive ledger n) → length (page_of image n) ≡ page_size

-- An image has a content of this slot, and the ledger has exactly its pages, each of them whole.
pub record IsImageOfSlot (image : Image) (slot : Slot) (ledger : LedgerState) : Type 0 where
  pub found : Found
  pub content_is : content image ≡ Some (slot, found)
  pub ledger_is : ledger ≡ holding_all (fresh slot.root.pages slot.seal) found.pages
  pub alive : (n : ℕ) → is_alive ledger n ≡ is_among n found.pages
  pub whole : LivePagesAreWhole image ledger
  pub keys : slot.root.keys ≡ length found.pairs

-- the current slot is of a tree
abbrev pub IsTree : Image → Slot → Type 0
IsTree image slot = (current image ≡ Some slot) × (IsTrue (is_tree_version slot.root.banner.version))

-- the current slot is of another form
abbrev pub IsOther : Image → Type 0
IsOther image = (slot : Slot) × (current image ≡ Some slot) × (is_tree_version slot.root.banner.version ≡ false)

-- What was found of the roots.
pub record IsSlotOpened (old new : State) (crash_states : CrashStates Image) (slot : Slot) (top : ℕ) : Type 0 where
  pub all : IsTrue old.honest → AllAre crash_states new.disk.view
  pub view : IsTrue old.honest → new.disk.view ≡ old.disk.view
  pub slot_is : IsTrue old.honest → current old.disk.view ≡ Some slot
  pub top_is : IsTrue old.honest → greatest_seal old.disk.view 16 ≡ top

-- What was opened.
pub record IsOpenedTree (old new : State) (crash_states : CrashStates Image) (slot : Slot) (ledger : LedgerState) (top : ℕ) : Type 0 where
  pub all : IsTrue old.honest → AllAre crash_states new.disk.view
  pub view : IsTrue old.honest → new.disk.view ≡ old.disk.view
  pub holds : IsTrue old.honest → IsImageOfSlot old.disk.view slot ledger
  pub top_is : IsTrue old.honest → greatest_seal old.disk.view 16 ≡ top

-- Why no current slot of a tree was found, by the image that was read.
abbrev pub IsTreeSlotFault : State → KeeperFault → Type 0
IsTreeSlotFault old faults.Device = Unit {0}
IsTreeSlotFault old faults.NoImage = IsTrue old.honest → current old.disk.view ≡ None
IsTreeSlotFault old faults.Version = IsTrue old.honest → IsOther old.disk.view
IsTreeSlotFault old other = ⊥

-- Why an opening was refused, by the image as it was read before it. No two of these hold of one image, but for a device that fails and for lack of memory.
abbrev pub IsTreeOpenFault : State → State → KeeperFault → Type 0
IsTreeOpenFault old new faults.Small = old.size < 128
IsTreeOpenFault old new faults.Device = (128 ≤ old.size) × OneCounted old new
IsTreeOpenFault old new faults.NoImage = (128 ≤ old.size) × (IsTrue old.honest → current old.disk.view ≡ None)
IsTreeOpenFault old new faults.Version = (128 ≤ old.size) × (IsTrue old.honest → IsOther old.disk.view)
IsTreeOpenFault old new (faults.Damaged page) = (128 ≤ old.size) × (IsTrue old.honest → (slot : Slot) × IsTree old.disk.view slot × (content old.disk.view ≡ None) × MayNamePage slot page × (tree_or_name slot (page_of old.disk.view) ≡ Err page))
IsTreeOpenFault old new faults.Memory = (128 ≤ old.size) × (IsTrue old.honest → (slot : Slot) × IsTree old.disk.view slot)
IsTreeOpenFault old new other = ⊥

-- What a refusal leaves: all that was there is made sure of, but where the device is too small, or where the sync failed and was counted. So the sync comes before each read.
abbrev pub LeavesSynced : State → State → CrashStates Image → KeeperFault → Type 0
LeavesSynced old new crash_states faults.Small = Unit {0}
LeavesSynced old new crash_states fault = (new.failed_writes ≡ counted old.failed_writes) ⊎ (IsTrue old.honest → AllAre crash_states new.disk.view)
