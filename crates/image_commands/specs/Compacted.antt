-- What `compact` does to an image, and what it prints, without the LF.
use Rattle.std.specs.Prelude.{◌≡◌, ◌⊎◌, ◌≤◌, ◌<◌, ⊤, ℕ, List, [], ◌++◌, Some, Result, codes, decimal, IfOk, IfErr, IsTrue}
use Rattle.common_types.specs.Counts.{counted}
use Rattle.common_types.specs.CrashStates.{CrashStates, AddsOnly, AddsNone}
use Rattle.host_types.specs.Site.{Site}
use Rattle.sector_device.specs.Device.{State, NothingCounted}
use Rattle.page_store.specs.Sectors.{Image}
use Rattle.page_store.specs.Roots.{current}
use Rattle.page_store.specs.declared.slot.Slot.{Slot}
use Rattle.page_store.specs.declared.fault.KeeperFault.{KeeperFault}
use Rattle.page_store.specs.declared.fault.KeeperFault.TheVariants as store
use Rattle.cow_tree.specs.TreeState.{unreached}
use Rattle.cow_tree.specs.Compacting.{NeedsFilled, IsFilledTree}
use Rattle.host_on_disk.specs.ImageSites.{ImageRepresents}
use Rattle.host_on_disk.specs.Upgrades.{IsLastGeneration}
use Rattle.image_commands.specs.Faults.{IsNotOpened}
use Rattle.image_commands.specs.declared.fault.ImageFault.{ImageFault}
use Rattle.image_commands.specs.declared.fault.ImageFault.TheVariants.{Refused, NoFile, BadRecord, Store, Memory}

abbrev pub free_line : ℕ → List ℕ
free_line free = codes "free " ++ decimal free

-- The one site that reads of a device give at first is written anew: opening it writes nothing, and a crash at any moment after that leaves what represents it.
pub record KeepsOneSite {D : Type 0} (state : D → State) (crash_states : D → CrashStates Image) (old new : D) : Type 0 where
  pub site : Site
  pub stands : ImageRepresents (state old).disk.view site
  pub alone : (s : Site) → ImageRepresents (state old).disk.view s → s ≡ site
  pub opened : D
  pub no_new_crash_state : AddsNone (crash_states old) (crash_states opened)
  pub at_crash : AddsOnly (crash_states opened) (crash_states new) (λ image. ImageRepresents image site)

-- Reads of a device give the same site as before.
pub record ShowsSite {D : Type 0} (state : D → State) (old new : D) : Type 0 where
  pub site : Site
  pub before : ImageRepresents (state old).disk.view site
  pub now : ImageRepresents (state new).disk.view site

-- The tree of the current root slot is in filled pages, and the line tells how many pages it leaves unreached.
pub record IsWrittenAnew (image : Image) (line : List ℕ) : Type 0 where
  pub slot : Slot
  pub current_is : current image ≡ Some slot
  pub filled : IsFilledTree slot image
  pub line_is : line ≡ free_line (unreached slot [] image)

-- Writing an image anew takes so many pages, and so many are free: both by the tree of its current root slot.
pub record LacksRoom (image : Image) (need free : ℕ) : Type 0 where
  pub slot : Slot
  pub current_is : current image ≡ Some slot
  pub needs : NeedsFilled slot image need
  pub free_is : free ≡ unreached slot [] image

-- The image was opened, but not written anew: a read failed, no further generation is there, the pages don't suffice, or a write or a sync failed; or memory was lacking, which may be for what is printed.
abbrev pub IsNotWrittenAnew : State → State → ImageFault → Type 0
IsNotWrittenAnew old new (Refused refused) = ⊥
IsNotWrittenAnew old new NoFile = ⊥
IsNotWrittenAnew old new BadRecord = ⊥
IsNotWrittenAnew old new (Store store.Device) = (new.failed_writes ≡ old.failed_writes) × (IsTrue old.honest → new.failed_reads ≡ counted old.failed_reads)
IsNotWrittenAnew old new (Store store.Spent) = NothingCounted old new × IsLastGeneration old
IsNotWrittenAnew old new (Store (store.Full need free)) = NothingCounted old new × (free < need) × (IsTrue old.honest → LacksRoom new.disk.view need free)
IsNotWrittenAnew old new (Store store.Failed) = (new.failed_writes ≡ counted old.failed_writes) × (new.failed_reads ≡ old.failed_reads)
IsNotWrittenAnew old new (Store other) = ⊥
IsNotWrittenAnew old new Memory = NothingCounted old new

-- Only such a fault may come where something was written: of a write or a sync, or want of memory, which may be for what is printed.
abbrev pub MayHaveWritten : ImageFault → Type 0
MayHaveWritten (Refused refused) = ⊥
MayHaveWritten NoFile = ⊥
MayHaveWritten BadRecord = ⊥
MayHaveWritten (Store store.Failed) = ⊤
MayHaveWritten (Store other) = ⊥
MayHaveWritten Memory = ⊤

-- When a fault may come of writing an image anew.
abbrev pub IsCompactingFault : State → State → ImageFault → Type 0
IsCompactingFault old new fault = IsNotOpened old new fault ⊎ ((128 ≤ old.size) × IsNotWrittenAnew old new fault)

-- The device that is handed back is as honest as before, and where all went well it counts nothing.
pub record LeavesDevice {D T F : Type 0} (state : D → State) (old : D) (result : Result (T × D) (F × D)) : Type 0 where
  pub counts : IfOk result (λ r. NothingCounted (state old) (state r.1))
  pub honest : IfOk result (λ r. (state r.1).honest ≡ (state old).honest)
  pub honest_on_fault : IfErr result (λ e. (state e.1).honest ≡ (state old).honest)
