-- Upgrading the image on a disk.
use Rattle.std.specs.Prelude.{◌≡◌, ◌⊎◌, ◌≤◌, ◌<◌, false, ℕ, List, length, Some, IsTrue}
use Rattle.common_types.specs.Counts.{counted}
use Rattle.common_types.specs.CrashStates.{CrashStates, AddsOnly, AddsNone, may_crash_to}
use Rattle.host_types.specs.Site.{Site}
use Rattle.sector_device.specs.Device.{State, NothingCounted, OneCounted}
use Rattle.page_store.specs.Pages.{Pair}
use Rattle.page_store.specs.Sectors.{Image}
use Rattle.page_store.specs.Content.{Found, content}
use Rattle.page_store.specs.Roots.{greatest_seal}
use Rattle.page_store.specs.StoreState.{last_generation, edits_to_be_deep}
use Rattle.page_store.specs.declared.banner.Banner.{Banner}
use Rattle.page_store.specs.declared.slot.Slot.{Slot}
use Rattle.page_store.specs.declared.fault.KeeperFault.{KeeperFault}
use Rattle.page_store.specs.declared.fault.KeeperFault.TheVariants as kinds
use Rattle.cow_tree.specs.Committed.{TreeHas}
use Rattle.cow_tree.specs.Opening.{IsTreeOpenFault}
use Rattle.site_store.specs.Upgrading.{RepresentsFirst, RepresentsEitherVersion}
use Rattle.host_on_disk.specs.ImageSites.{ImageRepresents}
use Rattle.host_on_disk.specs.OpenFaults.{IsOpeningFault, of_keeper}
use Rattle.host_on_disk.specs.declared.open_fault.OpenFault.{OpenFault}
use Rattle.host_on_disk.specs.declared.open_fault.OpenFault.TheVariants.{Keeper, BadRecord, Memory}

-- The image has the layout of a valid site in version 1, of which no item expires.
abbrev pub ImageRepresentsFirst : Image → Site → Type 0
ImageRepresentsFirst image s = RepresentsFirst TreeHas image s

-- in version 1 or in version 2
abbrev pub ImageRepresentsEither : Image → Site → Type 0
ImageRepresentsEither image s = RepresentsEitherVersion TreeHas image s

-- The one site that reads of a device give at first in version 1 stays: opening it writes nothing, and a crash at any moment after that leaves what represents it, in version 1 or 2.
pub record KeepsEither {D : Type 0} (state : D → State) (crash_states : D → CrashStates Image) (old new : D) : Type 0 where
  pub site : Site
  pub stands : ImageRepresentsFirst (state old).disk.view site
  pub alone : (s : Site) → ImageRepresentsFirst (state old).disk.view s → s ≡ site
  pub opened : D
  pub no_new_crash_state : AddsNone (crash_states old) (crash_states opened)
  pub at_crash : AddsOnly (crash_states opened) (crash_states new) (λ image. ImageRepresentsEither image site)

-- It was written in version 2, and from now on a crash leaves it so: so many records, one for each item.
pub record UpgradesDevice {D : Type 0} (state : D → State) (crash_states : D → CrashStates Image) (old new : D) (count : ℕ) : Type 0 where
  pub kept : KeepsEither state crash_states old new
  pub now : ImageRepresents (state new).disk.view kept.site
  pub sure : (image : Image) → may_crash_to (crash_states new) image → ImageRepresents image kept.site
  pub count_is : count ≡ length kept.site.items

-- What reads of a device give is of version 2 already: nothing was written.
pub record IsNewAlready {D : Type 0} (state : D → State) (crash_states : D → CrashStates Image) (old new : D) (count : ℕ) : Type 0 where
  pub pairs : List Pair
  pub banner : Banner
  pub has : TreeHas (state old).disk.view pairs banner
  pub version : banner.version ≡ 2
  pub no_new_crash_state : AddsNone (crash_states old) (crash_states new)
  pub none : count ≡ 0

-- What reads of a device give is of version 1, a site or not.
abbrev pub IsFirstImage : State → Type 0
IsFirstImage old = IsTrue old.honest → (pairs : List Pair) × (banner : Banner) × TreeHas old.disk.view pairs banner × (banner.version ≡ 1)

-- It represents a site in version 1.
abbrev pub ShowsFirstImage : State → Type 0
ShowsFirstImage old = IsTrue old.honest → (s : Site) × ImageRepresentsFirst old.disk.view s

-- No generation is left for a commit.
abbrev pub IsLastGeneration : State → Type 0
IsLastGeneration old = IsTrue old.honest → greatest_seal old.disk.view 16 ≡ last_generation

-- With a record for each item of its site the tree may have more levels than there may be.
abbrev pub MayGrowDeep : State → Type 0
MayGrowDeep old = IsTrue old.honest → (s : Site) × ImageRepresentsFirst old.disk.view s × (slot : Slot) × (found : Found) × (content old.disk.view ≡ Some (slot, found)) × (edits_to_be_deep slot.root.height ≤ length s.items)

-- Why an image that was opened was not upgraded, and what was counted. `BadRecord` says that it represents no site in version 1; all that a commit may answer comes of an image that does.
abbrev pub IsImageNotUpgraded : State → State → OpenFault → Type 0
IsImageNotUpgraded old new (Keeper kinds.Device) = OneCounted old new
IsImageNotUpgraded old new (Keeper (kinds.Damaged page)) = NothingCounted old new × (old.honest ≡ false)
IsImageNotUpgraded old new (Keeper kinds.Spent) = NothingCounted old new × IsLastGeneration old
IsImageNotUpgraded old new (Keeper kinds.Deep) = NothingCounted old new × MayGrowDeep old
IsImageNotUpgraded old new (Keeper (kinds.Full need free)) = NothingCounted old new × (free < need) × ShowsFirstImage old
IsImageNotUpgraded old new (Keeper kinds.Failed) = (new.failed_writes ≡ counted old.failed_writes) × (new.failed_reads ≡ old.failed_reads) × ShowsFirstImage old
IsImageNotUpgraded old new (Keeper kinds.NoImage) = ⊥
IsImageNotUpgraded old new (Keeper kinds.Version) = ⊥
IsImageNotUpgraded old new (Keeper kinds.Small) = ⊥
IsImageNotUpgraded old new (Keeper kinds.Memory) = ⊥
IsImageNotUpgraded old new BadRecord = NothingCounted old new × (IsTrue old.honest → (s : Site) → ImageRepresentsFirst old.disk.view s → ⊥)
IsImageNotUpgraded old new Memory = NothingCounted old new

-- Its key-value store is not opened.
abbrev pub IsStoreRefusal : State → State → OpenFault → Type 0
IsStoreRefusal old new fault = IsOpeningFault old new fault × ((kind : KeeperFault) × (fault ≡ of_keeper kind) × IsTreeOpenFault old new kind)

-- Why an image is not upgraded: its key-value store is not opened, or it was, has content of version 1, and was refused then.
abbrev pub IsUpgradeRefusal : State → State → OpenFault → Type 0
IsUpgradeRefusal old new fault = IsStoreRefusal old new fault ⊎ ((128 ≤ old.size) × IsFirstImage old × IsImageNotUpgraded old new fault)
