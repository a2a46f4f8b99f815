-- Why a command on an image ends with a fault.
use Rattle.std.specs.Prelude.{◌≡◌, ◌⊎◌, ◌≤◌, IsTrue}
use Rattle.common_types.specs.Counts.{Rose}
use Rattle.sector_device.specs.Device.{State}
use Rattle.sector_device.specs.declared.device.DeviceFault.{DeviceFault}
use Rattle.sector_device.specs.declared.device.DeviceFault.TheVariants as devices
use Rattle.page_store.specs.declared.fault.KeeperFault.{KeeperFault}
use Rattle.page_store.specs.declared.fault.KeeperFault.TheVariants as store
use Rattle.host_types.specs.declared.site_fault.SiteFault.{SiteFault}
use Rattle.host_types.specs.declared.site_fault.SiteFault.TheVariants as sites
use Rattle.host_on_disk.specs.OpenFaults.{IsOpeningFault}
use Rattle.host_on_disk.specs.declared.open_fault.OpenFault.{OpenFault}
use Rattle.host_on_disk.specs.declared.open_fault.OpenFault.TheVariants as opening
use Rattle.image_commands.specs.declared.fault.ImageFault.{ImageFault}
use Rattle.image_commands.specs.declared.fault.ImageFault.TheVariants.{Refused, NoFile, BadRecord, Store, Memory}

-- ---- the faults of what a command calls, as the command's

-- a store's fault
abbrev pub of_store : KeeperFault → ImageFault
of_store store.Memory = Memory
of_store store.Device = Store store.Device
of_store store.NoImage = Store store.NoImage
of_store store.Version = Store store.Version
of_store (store.Damaged page) = Store (store.Damaged page)
of_store store.Small = Store store.Small
of_store store.Spent = Store store.Spent
of_store store.Deep = Store store.Deep
of_store (store.Full need free) = Store (store.Full need free)
of_store store.Failed = Store store.Failed

-- a fault of an opening
abbrev pub of_opening : OpenFault → ImageFault
of_opening (opening.Keeper fault) = of_store fault
of_opening opening.BadRecord = BadRecord
of_opening opening.Memory = Memory

-- a fault of the site: a failed read is the device's
abbrev pub of_site : SiteFault → ImageFault
of_site (sites.Refused refused) = Refused refused
of_site sites.Read = Store store.Device
of_site (sites.Full need free) = Store (store.Full need free)
of_site sites.Spent = Store store.Spent
of_site sites.Deep = Store store.Deep
of_site sites.Failed = Store store.Failed
of_site sites.Memory = Memory

-- a fault of a file
abbrev pub of_device : DeviceFault → ImageFault
of_device devices.Device = Store store.Device
of_device devices.NoFile = NoFile
of_device devices.Memory = Memory

-- ---- causes

-- The image was not opened, for its own cause.
abbrev pub IsNotOpened : State → State → ImageFault → Type 0
IsNotOpened old new fault = (refused : OpenFault) × (fault ≡ of_opening refused) × IsOpeningFault old new refused

-- Or it was opened, nothing was written, and a read failed then, or there was no memory for what is printed.
abbrev pub IsNotRead : State → State → ImageFault → Type 0
IsNotRead old new (Refused refused) = ⊥
IsNotRead old new NoFile = ⊥
IsNotRead old new BadRecord = ⊥
IsNotRead old new (Store fault) = (fault ≡ store.Device) × (new.failed_writes ≡ old.failed_writes) × (IsTrue old.honest → Rose old.failed_reads new.failed_reads)
IsNotRead old new Memory = (128 ≤ old.size) × (new.failed_writes ≡ old.failed_writes)

-- When a fault may come of a command that only reads an image.
abbrev pub IsReadingFault : State → State → ImageFault → Type 0
IsReadingFault old new fault = IsNotOpened old new fault ⊎ IsNotRead old new fault
