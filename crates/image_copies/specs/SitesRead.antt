-- What is read of the site of an image, to be written in another one.
use Rattle.std.specs.Prelude.{◌≡◌, ◌≤◌, length, Result, OnOk, IfErr, IsTrue}
use Rattle.common_types.specs.Counts.{Rose}
use Rattle.common_types.specs.CrashStates.{CrashStates, AddsNone}
use Rattle.host_types.specs.Site.{Site}
use Rattle.sector_device.specs.Device.{State, NothingCounted}
use Rattle.page_store.specs.Sectors.{Image}
use Rattle.page_store.specs.StoreState.{StoreState, StoreHasRead}
use Rattle.page_store.specs.declared.fault.KeeperFault.TheVariants as store
use Rattle.site_store.specs.Represented.{PairsShowSite}
use Rattle.host_on_disk.specs.ImageSites.{ImageRepresents}
use Rattle.image_commands.specs.declared.fault.ImageFault.{ImageFault}
use Rattle.image_commands.specs.declared.fault.ImageFault.TheVariants.{Refused, NoFile, BadRecord, Store, Memory}
use Rattle.image_copies.specs.declared.site_read.SiteRead.{SiteRead}

-- All of a site was read: its pairs, the banner that it stands under, and how many items it has.
pub record IsReadOf (s : Site) (read : SiteRead) : Type 0 where
  pub shows : PairsShowSite read.pairs.items read.banner s
  pub items : read.items ≡ length s.items

-- The one site that an image represents was read.
pub record IsSiteRead (image : Image) (read : SiteRead) : Type 0 where
  pub site : Site
  pub stands : ImageRepresents image site
  pub alone : (s : Site) → ImageRepresents image s → s ≡ site
  pub read_is : IsReadOf site read

-- Why the pairs are not read: a read failed or the device lied, or memory lacks.
abbrev pub IsSiteNotRead : StoreState → StoreState → ImageFault → Type 0
IsSiteNotRead old new (Refused refused) = ⊥
IsSiteNotRead old new NoFile = ⊥
IsSiteNotRead old new BadRecord = ⊥
IsSiteNotRead old new (Store fault) = (fault ≡ store.Device) × (IsTrue old.honest → Rose old.failed_reads new.failed_reads)
IsSiteNotRead old new Memory = Unit {0}

-- How pairs of a keeper are read: nothing of it changes, a fault has its cause, and what fails nowhere counts nothing.
pub record ReadsAllPairs {K L T : Type 0} (state : K → StoreState) (crash_states : K → CrashStates L) (old new : K) (result : Result T ImageFault) : Type 0 where
  pub kept : StoreHasRead (state old) (state new)
  pub counts : OnOk result ((state new).failed_reads ≡ (state old).failed_reads)
  pub fault : IfErr result (IsSiteNotRead (state old) (state new))
  pub at_crash : IsTrue (state old).honest → AddsNone (crash_states old) (crash_states new)

-- A device of an image is handed back as it was, with nothing counted.
pub record HandsOver {D L : Type 0} (state : D → State) (crash_states : D → CrashStates L) (old new : D) : Type 0 where
  pub counts : NothingCounted (state old) (state new)
  pub honest : (state new).honest ≡ (state old).honest
  pub at_crash : IsTrue (state old).honest → AddsNone (crash_states old) (crash_states new)
  pub large : 128 ≤ (state new).size
