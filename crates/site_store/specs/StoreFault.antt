-- Faults of what is kept, as the site's.
use Rattle.host_types.specs.declared.site_fault.SiteFault.{SiteFault}
use Rattle.host_types.specs.declared.site_fault.SiteFault.TheVariants as faults
use Rattle.host_types.specs.declared.pin_fault.SitePinFault.{SitePinFault}
use Rattle.host_types.specs.declared.pin_fault.SitePinFault.TheVariants as site_pin_faults
use Rattle.page_store.specs.declared.fault.KeeperFault.{KeeperFault}
use Rattle.page_store.specs.declared.fault.KeeperFault.TheVariants as kinds
use Rattle.page_store.specs.declared.pin_fault.PinFault.{PinFault}
use Rattle.page_store.specs.declared.pin_fault.PinFault.TheVariants as pin_faults
use Rattle.site_store.specs.declared.fault.SiteOpenFault.{SiteOpenFault}
use Rattle.site_store.specs.declared.fault.SiteOpenFault.TheVariants.{BadRecord, Keeper, Memory}

-- a keeper's fault as the site's
abbrev pub store_site_fault_of : KeeperFault → SiteFault
store_site_fault_of kinds.Device = faults.Read
store_site_fault_of kinds.NoImage = faults.Read
store_site_fault_of kinds.Version = faults.Read
store_site_fault_of (kinds.Damaged page) = faults.Read
store_site_fault_of kinds.Small = faults.Read
store_site_fault_of kinds.Spent = faults.Spent
store_site_fault_of kinds.Deep = faults.Deep
store_site_fault_of (kinds.Full need free) = faults.Full need free
store_site_fault_of kinds.Failed = faults.Failed
store_site_fault_of kinds.Memory = faults.Memory

-- why a keeper gives no pin, as the site's
abbrev pub site_pin_fault_of : PinFault → SitePinFault
site_pin_fault_of pin_faults.Failed = site_pin_faults.Failed
site_pin_fault_of pin_faults.Crowded = site_pin_faults.Crowded

-- a fault of what is kept, once the site is open
abbrev pub site_fault_of : SiteOpenFault → SiteFault
site_fault_of BadRecord = faults.Read
site_fault_of (Keeper fault) = store_site_fault_of fault
site_fault_of Memory = faults.Memory
