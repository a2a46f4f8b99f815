-- What a key-value store holds, and what its calls have in common.
use Rattle.std.specs.Prelude.{◌≡◌, ◌⊎◌, ◌<◌, ◌≤◌, ◌+◌, ◌-◌, ◌^◌, ℕ, max, Bool, false, List, length, drop, map, Option, Some, None, Result, Ok, Err, IsTrue}
use Rattle.common_types.specs.Counts.{counted}
use Rattle.sector_device.specs.CallsMade.{CallsMade}
use Rattle.page_store.specs.Work.{WritesNothing}
use Rattle.page_store.specs.Pages.{Pair}
use Rattle.page_store.specs.declared.banner.Banner.{Banner}
use Rattle.page_store.specs.declared.edit.Edit.{Edit}
use Rattle.page_store.specs.declared.figures.Figures.{Figures}
use Rattle.page_store.specs.declared.fault.KeeperFault.{KeeperFault}
use Rattle.page_store.specs.declared.fault.KeeperFault.TheVariants as faults

-- The pairs stand in byte order of their keys. `honest`: the device keeps its written meaning. `usable`: no write or sync has failed. `generation`: that of the current root slot. `top`: the greatest generation that was found at opening or tried since. `free`: how many pages a commit may write. `height`: how many levels the tree of pages has, none where the pages are flat. `keys`: how many pairs it counts, on every device: so many were found when it was opened, and a commit counts them on. `made`: how many calls it has made of what it is kept on. `pins`: the number of each pin that is out, and the pairs that it keeps.
pub record StoreState : Type 0 where
  pub pairs : List Pair
  pub banner : Banner
  pub honest : Bool
  pub usable : Bool
  pub failed_reads : ℕ
  pub failed_writes : ℕ
  pub generation : ℕ
  pub top : ℕ
  pub free : ℕ
  pub height : ℕ
  pub keys : ℕ
  pub made : CallsMade
  pub pins : List (ℕ × List Pair)

-- the numbers of the pins that are out
abbrev pub numbers_out : StoreState → List ℕ
numbers_out h = map (λ pin. pin.0) h.pins

-- no generation is above
abbrev pub last_generation : ℕ
last_generation = 2 ^ 64 - 1

-- a tree has no more levels
abbrev pub most_levels : ℕ
most_levels = 16

-- How many edits a tree of so many levels takes at least until it has too many: seven times as many for each level that is still to come.
abbrev pub edits_to_be_deep : ℕ → ℕ
edits_to_be_deep height = 7 ^ (most_levels - max 1 height)

-- A commit of so many edits may give a tree too many levels. Flat pages, of version 0, have none.
abbrev pub MayBeDeep : StoreState → ℕ → Type 0
MayBeDeep h edits = (0 < h.banner.version) × (edits_to_be_deep h.height ≤ edits)

-- What a store says of its size.
pub record IsFigures (h : StoreState) (figures : Figures) : Type 0 where
  pub keys : IsTrue h.honest → figures.keys ≡ length h.pairs
  pub counted : figures.keys ≡ h.keys
  pub free : figures.free ≡ h.free
  pub generation : figures.generation ≡ h.generation

-- What a call leaves that changes nothing of what is held: it has written nothing.
pub record HasStayed (old new : StoreState) : Type 0 where
  pub pairs : IsTrue old.honest → new.pairs ≡ old.pairs
  pub banner : new.banner ≡ old.banner
  pub usable : new.usable ≡ old.usable
  pub generation : new.generation ≡ old.generation
  pub top : new.top ≡ old.top
  pub free : new.free ≡ old.free
  pub height : new.height ≡ old.height
  pub keys : new.keys ≡ old.keys
  pub out : numbers_out new ≡ numbers_out old
  pub pins : IsTrue old.honest → new.pins ≡ old.pins
  pub calls : WritesNothing old.made new.made

-- What a call that only reads leaves: reads may have failed.
pub record StoreHasRead (old new : StoreState) : Type 0 where
  pub same : HasStayed old new
  pub honest : new.honest ≡ old.honest
  pub reads : old.failed_reads ≤ new.failed_reads
  pub writes : new.failed_writes ≡ old.failed_writes

-- what a commit of a batch needs: so many pages, or more levels than a tree may have
pub data CommitNeed : Type 0 where
  SoManyPages : ℕ → CommitNeed
  TooManyLevels : CommitNeed

-- pages alone, and never too many levels
abbrev pub OnlyPages : (ℕ → Type 0) → CommitNeed → Type 0
OnlyPages may_need (SoManyPages need) = may_need need
OnlyPages may_need TooManyLevels = ⊥

-- A batch may need the same after a call as before it.
pub record NeedsTheSame (old new : List Edit → CommitNeed → Type 0) : Type 0 where
  pub after : (batch : List Edit) (need : CommitNeed) → old batch need → new batch need
  pub before : (batch : List Edit) (need : CommitNeed) → new batch need → old batch need

-- A buffer that an answer fills from the front: behind the answer it stays, and whole where nothing is found or a fault comes.
abbrev pub IsFilled : {A E : Type 0} → (A → ℕ) → Result (Option A) E → List ℕ → List ℕ → Type 0
IsFilled size (Ok (Some found)) old new = drop (size found) new ≡ drop (size found) old
IsFilled size (Ok None) old new = new ≡ old
IsFilled size (Err fault) old new = new ≡ old

-- When a fault may come of a call that only reads.
abbrev pub IsStoreReadFault : StoreState → StoreState → KeeperFault → Type 0
IsStoreReadFault old new faults.Device = new.failed_reads ≡ counted old.failed_reads
IsStoreReadFault old new faults.NoImage = ⊥
IsStoreReadFault old new faults.Version = ⊥
IsStoreReadFault old new (faults.Damaged page) = old.honest ≡ false
IsStoreReadFault old new faults.Small = ⊥
IsStoreReadFault old new faults.Spent = ⊥
IsStoreReadFault old new faults.Deep = ⊥
IsStoreReadFault old new (faults.Full need free) = ⊥
IsStoreReadFault old new faults.Failed = old.usable ≡ false
IsStoreReadFault old new faults.Memory = ⊥

-- A write or a sync failed, in this call or before.
pub record StoreHasFailed (old new : StoreState) : Type 0 where
  pub pairs : IsTrue old.honest → new.pairs ≡ old.pairs
  pub banner : new.banner ≡ old.banner
  pub shut : new.usable ≡ false
  pub generation : new.generation ≡ old.generation
  pub free : new.free ≡ old.free
  pub height : new.height ≡ old.height
  pub keys : new.keys ≡ old.keys
  pub out : numbers_out new ≡ numbers_out old
  pub pins : IsTrue old.honest → new.pins ≡ old.pins
  pub cause : IsTrue old.usable → new.failed_writes ≡ counted old.failed_writes
  pub top : (new.top ≡ old.top) ⊎ (new.top ≡ old.top + 1)

-- When a fault may come of a commit of so many edits, and what stands then; `may_need` says what the batch may need.
abbrev pub IsCommitFault : StoreState → StoreState → ℕ → (CommitNeed → Type 0) → KeeperFault → Type 0
IsCommitFault old new edits may_need faults.Device = HasStayed old new × (new.failed_reads ≡ counted old.failed_reads)
IsCommitFault old new edits may_need faults.NoImage = ⊥
IsCommitFault old new edits may_need faults.Version = ⊥
IsCommitFault old new edits may_need (faults.Damaged page) = HasStayed old new × (old.honest ≡ false)
IsCommitFault old new edits may_need faults.Small = ⊥
IsCommitFault old new edits may_need faults.Spent = HasStayed old new × (old.top ≡ last_generation)
IsCommitFault old new edits may_need faults.Deep = HasStayed old new × (IsTrue old.honest → MayBeDeep old edits × may_need TooManyLevels)
IsCommitFault old new edits may_need (faults.Full need free) = HasStayed old new × (free ≡ old.free) × (free < need) × (IsTrue old.honest → may_need (SoManyPages need))
IsCommitFault old new edits may_need faults.Failed = StoreHasFailed old new
IsCommitFault old new edits may_need faults.Memory = HasStayed old new

-- What every commit leaves, whatever it answers.
pub record StoreHasTried (old new : StoreState) : Type 0 where
  pub honest : new.honest ≡ old.honest
  pub reads : old.failed_reads ≤ new.failed_reads
  pub writes : old.failed_writes ≤ new.failed_writes
  pub top : old.top ≤ new.top
