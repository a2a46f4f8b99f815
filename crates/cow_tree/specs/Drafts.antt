-- A tree that a commit changes, before anything is written.
use Rattle.std.specs.Prelude.{◌≡◌, ◌≤◌, ◌<◌, ◌+◌, ◌-◌, ◌*◌, ◌^◌, ◌==◌, min, ℕ, Bool, true, false, List, length, take, Some, Result, Ok, Err, IsTrue, IfSome, IfErr, if◌then◌else◌}
use Rattle.sector_device.specs.Sizes.{page_size}
use Rattle.common_types.specs.CrashStates.{CrashStates}
use Rattle.sector_device.specs.Device.{State}
use Rattle.page_alloc.specs.LedgerState.{LedgerState, mark_of, is_taken, is_alive, free_count}
use Rattle.page_store.specs.Sectors.{Image, page_of}
use Rattle.page_store.specs.Pages.{Pair, head_at, page_word}
use Rattle.page_store.specs.Batch.{is_map}
use Rattle.page_store.specs.Counting.{CountsStoreReads}
use Rattle.page_store.specs.DeviceEffects.{IsReadCall}
use Rattle.page_store.specs.StoreState.{most_levels, edits_to_be_deep}
use Rattle.page_store.specs.declared.slot.Slot.{Slot}
use Rattle.page_store.specs.declared.fault.KeeperFault.{KeeperFault}
use Rattle.page_store.specs.declared.fault.KeeperFault.TheVariants as faults
use Rattle.tree_nodes.specs.Tree.{OldPages}
use Rattle.tree_nodes.specs.Image.{old_of, head_level}
use Rattle.tree_nodes.specs.Steps.{RootState, IsValidRoot, root_pairs, no_tree, needed_under}
use Rattle.tree_nodes.specs.Needs.{needed_level}
use Rattle.tree_nodes.specs.OwnedTrees.{at_page, state_of}
use Rattle.tree_nodes.specs.Growth.{MayHaveGrown, owned_under}
use Rattle.tree_pages.specs.Reached.{times, root_reached}
use Rattle.cow_tree.specs.Opening.{bounds_under}
use Rattle.cow_tree.specs.declared.drafts.Draft.{Draft}

-- the first 4,096 bytes of each page of an image: all of them of a page that was read
abbrev pub bytes_in : Image → ℕ → List ℕ
bytes_in image n = take page_size (page_of image n)

-- the pages of an image under a slot, as a tree may name them
abbrev pub old_under : Slot → Image → OldPages
old_under slot image = old_of (bytes_in image) (bounds_under slot)

-- the tree under a slot before any change: its root's page
abbrev pub root_under : Slot → RootState
root_under slot = if slot.root.height == 0 then no_tree else at_page slot.root.tree slot.root.height

abbrev pub one_if : Bool → ℕ
one_if true = 1
one_if false = 0

-- how many nodes a commit of so many edits may make at most: for each edit those on its key's path, which are copied, and a new one on each level
abbrev pub most_nodes : Slot → ℕ → ℕ
most_nodes slot edits = edits * (slot.root.height + most_levels)

-- Each page that is alive is a whole page of the image, of a level of the slot's tree.
pub record AreAlive (slot : Slot) (image : Image) (ledger : LedgerState) : Type 0 where
  pub inside : (n : ℕ) → IsTrue (is_alive ledger n) → (2 ≤ n) × (n < slot.root.pages)
  pub whole : (n : ℕ) → IsTrue (is_alive ledger n) → length (page_of image n) ≡ page_size
  pub levels : (n : ℕ) → IsTrue (is_alive ledger n) → head_level (head_at page_word (bytes_in image n)) < slot.root.height
  pub marked : length ledger.marks ≡ slot.root.pages
  pub untaken : (n : ℕ) → is_taken (mark_of ledger n) ≡ false

-- The tree under a slot after so many edits, with some pages read beyond those that these edits took: it has these pairs, and reaches each page that is alive once, and no other.
pub record IsDraft (slot : Slot) (image : Image) (edits read : ℕ) (pairs : List Pair) (ledger : LedgerState) (tree : RootState) : Type 0 where
  pub valid : IsValidRoot (old_under slot image) tree.root tree.height
  pub pairs_are : root_pairs (old_under slot image) tree.root ≡ pairs
  pub reached : (n : ℕ) → times n (root_reached (bytes_in image) (bounds_under slot) tree.root) ≡ one_if (is_alive ledger n)
  pub alive : AreAlive slot image ledger
  pub few : owned_under tree.root ≤ most_nodes slot edits + read
  pub grown : MayHaveGrown slot.root.height edits tree

-- Of a ledger only marks have changed, of the running commit.
pub record OnlyMarks (old new : LedgerState) : Type 0 where
  pub lives : new.lives ≡ old.lives
  pub size : length new.marks ≡ length old.marks
  pub generation : new.generation ≡ old.generation
  pub pins : new.pins ≡ old.pins

-- Of a ledger only marks have changed, and as many pages are free.
pub record OnlyRetires (old new : LedgerState) : Type 0 where
  pub marks : OnlyMarks old new
  pub free : free_count new ≡ free_count old

-- What is known of a step of a commit on an honest device: nothing is damaged, and levels are too many only where this holds.
abbrev pub TellsDraft : {T : Type 0} → Type 0 → Result T KeeperFault → (T → Type 0) → Type 0
TellsDraft deep (Ok x) P = P x
TellsDraft deep (Err faults.Deep) P = deep
TellsDraft deep (Err (faults.Damaged page)) P = ⊥
TellsDraft deep (Err other) P = Unit {0}

-- Only reads were made of a device; one that failed was counted, and nothing else.
pub record IsCountedRead {T D : Type 0} (state : D → State) (crash_states : D → CrashStates Image) (old new : D) (result : Result T KeeperFault) : Type 0 where
  pub device : IsReadCall state crash_states old new
  pub reads : CountsStoreReads result (state old).failed_reads (state new).failed_reads

-- the faults of a step of a commit before any page is taken
abbrev pub IsDraftFault : KeeperFault → Type 0
IsDraftFault faults.Device = Unit {0}
IsDraftFault (faults.Damaged page) = Unit {0}
IsDraftFault faults.Deep = Unit {0}
IsDraftFault faults.Memory = Unit {0}
IsDraftFault other = ⊥

-- The device has the image of a slot, and the ledger its pages.
pub record HasImageOf (sectors : ℕ) (slot : Slot) (ledger : LedgerState) : Type 0 where
  pub fits : 8 * slot.root.pages ≤ sectors
  pub pages : length ledger.lives ≡ slot.root.pages

-- A page that a key needs was read into a tree: the next one that it needs stands on a lower level, and there are as many levels.
pub record GoesDown (key : List ℕ) (old new : RootState) : Type 0 where
  pub down : (n : ℕ) → needed_under key new.root ≡ Some n → needed_level key new < needed_level key old
  pub height : new.height ≡ old.height

-- A call that reads pages for a draft: of the device only reads are made, of the ledger only pages are given up, and only these faults come.
pub record ReadsToDraft {T D : Type 0} (state : D → State) (crash_states : D → CrashStates Image) (old new : D) (before after : LedgerState) (result : Result T KeeperFault) : Type 0 where
  pub counted : IsCountedRead state crash_states old new result
  pub ledger : OnlyRetires before after
  pub fault : IfErr result IsDraftFault

-- One page more is read into the tree of a draft.
abbrev pub ReadsOneMore : {T : Type 0} → Slot → Image → LedgerState → RootState → LedgerState → RootState → Result T KeeperFault → Type 0
ReadsOneMore slot view before old after new result = (edits read : ℕ) (pairs : List Pair) → IsDraft slot view edits read pairs before old → TellsDraft ⊥ result (λ done. IsDraft slot view edits (read + 1) pairs after new)

-- As many pages as a slot's tree has levels are read into the tree of a draft, at most.
abbrev pub ReadsOneWay : {T : Type 0} → Slot → Image → LedgerState → RootState → LedgerState → RootState → Result T KeeperFault → Type 0
ReadsOneWay slot view before old after new result = (edits : ℕ) (pairs : List Pair) → IsDraft slot view edits 0 pairs before old → TellsDraft ⊥ result (λ done. IsDraft slot view edits slot.root.height pairs after new)

-- the faults of a put into a tree that then stands so
abbrev pub IsPutFault : RootState → KeeperFault → Type 0
IsPutFault now faults.Deep = most_levels < now.height
IsPutFault now faults.Memory = Unit {0}
IsPutFault now other = ⊥

-- how many keys there are with one more, or with one less, that was there or not
abbrev pub keys_with : Bool → ℕ → ℕ
keys_with true keys = keys
keys_with false keys = min (keys + 1) (2 ^ 64 - 1)

abbrev pub keys_without : Bool → ℕ → ℕ
keys_without true keys = keys - 1
keys_without false keys = keys

-- a tree of so many levels may be too deep after so many edits
abbrev pub MayBeTooDeep : Slot → ℕ → Type 0
MayBeTooDeep slot edits = edits_to_be_deep slot.root.height ≤ edits

-- No more pages were read for a key than the tree under the slot has levels, nor will be.
pub record IsOnPath (slot : Slot) (key : List ℕ) (read : ℕ) (tree : RootState) : Type 0 where
  pub so_far : read ≤ slot.root.height
  pub to_come : IfSome (needed_under key tree.root) (λ page. read + needed_level key tree + 1 ≤ slot.root.height)

-- a draft of so many edits, with as many pairs as it counts, which are a map
pub record IsCounted (slot : Slot) (image : Image) (edits : ℕ) (pairs : List Pair) (ledger : LedgerState) (draft : Draft) : Type 0 where
  pub draft_is : IsDraft slot image edits 0 pairs ledger (state_of draft.tree)
  pub keys : draft.keys ≡ length pairs
  pub map : is_map pairs ≡ true
