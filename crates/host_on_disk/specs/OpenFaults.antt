-- Why a device isn't opened as a site.
use Rattle.std.specs.Prelude.{◌≡◌, ◌⊎◌, ◌≤◌, List, IsTrue}
use Rattle.common_types.specs.CrashStates.{CrashStates, AddsNone}
use Rattle.sector_device.specs.Device.{State, NothingCounted}
use Rattle.page_store.specs.Pages.{Pair}
use Rattle.page_store.specs.Sectors.{Image}
use Rattle.page_store.specs.declared.banner.Banner.{Banner}
use Rattle.page_store.specs.declared.fault.KeeperFault.{KeeperFault}
use Rattle.page_store.specs.declared.fault.KeeperFault.TheVariants as kinds
use Rattle.cow_tree.specs.Opening.{IsTreeOpenFault}
use Rattle.cow_tree.specs.Committed.{TreeHas}
use Rattle.site_store.specs.declared.fault.SiteOpenFault.{SiteOpenFault}
use Rattle.site_store.specs.declared.fault.SiteOpenFault.TheVariants as reading
use Rattle.host_on_disk.specs.ImageSites.{RepresentsNone}
use Rattle.host_on_disk.specs.declared.open_fault.OpenFault.{OpenFault}
use Rattle.host_on_disk.specs.declared.open_fault.OpenFault.TheVariants.{Keeper, BadRecord, Memory}

-- a keeper's fault
abbrev pub of_keeper : KeeperFault → OpenFault
of_keeper kinds.Memory = Memory
of_keeper kinds.Device = Keeper kinds.Device
of_keeper kinds.NoImage = Keeper kinds.NoImage
of_keeper kinds.Version = Keeper kinds.Version
of_keeper (kinds.Damaged page) = Keeper (kinds.Damaged page)
of_keeper kinds.Small = Keeper kinds.Small
of_keeper kinds.Spent = Keeper kinds.Spent
of_keeper kinds.Deep = Keeper kinds.Deep
of_keeper (kinds.Full need free) = Keeper (kinds.Full need free)
of_keeper kinds.Failed = Keeper kinds.Failed

-- a fault of reading the site
abbrev pub of_site : SiteOpenFault → OpenFault
of_site reading.BadRecord = BadRecord
of_site (reading.Keeper fault) = of_keeper fault
of_site reading.Memory = Memory

-- A device that is honest shows no site.
abbrev pub ShowsNone : State → Type 0
ShowsNone old = IsTrue old.honest → RepresentsNone old.disk.view

-- A device that is honest shows some content, in the version that a site is opened from.
abbrev pub ShowsContent : State → Type 0
ShowsContent old = IsTrue old.honest → (pairs : List Pair) × (banner : Banner) × TreeHas old.disk.view pairs banner × (banner.version ≡ 2)

-- A device that is honest shows whole content, in a version that a keeper opens and a site isn't opened from.
abbrev pub ShowsOther : State → Type 0
ShowsOther old = (128 ≤ old.size) × (IsTrue old.honest → (pairs : List Pair) × (banner : Banner) × TreeHas old.disk.view pairs banner × (banner.version ≡ 2 → ⊥))

-- Why an opening is refused, and what it counted. A fault of the key-value store has the cause that opening the keeper gives it, `BadRecord` comes where there is content but it represents no site, and `Memory` where a slot to be opened is current. But for a device that fails and for lack of memory, no two of these hold of one image.
abbrev pub IsOpeningFault : State → State → OpenFault → Type 0
IsOpeningFault old new (Keeper kinds.Device) = IsTreeOpenFault old new kinds.Device
IsOpeningFault old new (Keeper kinds.NoImage) = IsTreeOpenFault old new kinds.NoImage × NothingCounted old new × ShowsNone old
IsOpeningFault old new (Keeper kinds.Version) = (IsTreeOpenFault old new kinds.Version ⊎ ShowsOther old) × NothingCounted old new × ShowsNone old
IsOpeningFault old new (Keeper (kinds.Damaged page)) = IsTreeOpenFault old new (kinds.Damaged page) × NothingCounted old new × ShowsNone old
IsOpeningFault old new (Keeper kinds.Small) = IsTreeOpenFault old new kinds.Small × NothingCounted old new × ShowsNone old
IsOpeningFault old new (Keeper kinds.Spent) = ⊥
IsOpeningFault old new (Keeper kinds.Deep) = ⊥
IsOpeningFault old new (Keeper (kinds.Full need free)) = ⊥
IsOpeningFault old new (Keeper kinds.Failed) = ⊥
IsOpeningFault old new (Keeper kinds.Memory) = ⊥
IsOpeningFault old new BadRecord = (128 ≤ old.size) × NothingCounted old new × ShowsContent old × ShowsNone old
IsOpeningFault old new Memory = IsTreeOpenFault old new kinds.Memory × NothingCounted old new

-- A call that refuses hands its device back: the cause, whether it is honest as before, and that nothing was written, so that no crash state is added.
pub record HandsBack {D F : Type 0} (cause : State → State → F → Type 0) (state : D → State) (crash_states : D → CrashStates Image) (old new : D) (fault : F) : Type 0 where
  pub caused : cause (state old) (state new) fault
  pub honest : (state new).honest ≡ (state old).honest
  pub no_new_crash_state : IsTrue (state old).honest → AddsNone (crash_states old) (crash_states new)
