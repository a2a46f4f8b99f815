-- A site over a keeper, as its trait tells it.
use Rattle.host_types.specs.AllChanges.{Changes}
use Rattle.host_types.specs.SiteState.{SiteState}
use Rattle.host_types.specs.CrashStates.{CrashStates}
use Rattle.host_types.specs.declared.site_fault.SiteFault.{SiteFault}
use Rattle.site_store.specs.Represented.{site_of, site_state_of}
use Rattle.site_store.specs.Lacking.{IsLacking}
use Rattle.site_store.specs.declared.disk_site.DiskSite.{DiskSite}

abbrev pub disk_state : {K : Type 0} {dict : _} → DiskSite K dict → SiteState
disk_state {dict = dict} d = site_state_of (dict.store_state d.keeper) d.kept

abbrev pub disk_lacks : {K : Type 0} {dict : _} → DiskSite K dict → Changes → SiteFault → Type 0
disk_lacks {dict = dict} d = IsLacking dict.store_state dict.may_need d.keeper (site_of (dict.store_state d.keeper) d.kept)

abbrev pub disk_crash_states : {K : Type 0} {dict : _} → DiskSite K dict → CrashStates dict.CrashState
disk_crash_states {dict = dict} d = dict.crash_states d.keeper
