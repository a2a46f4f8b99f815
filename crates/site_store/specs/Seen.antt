-- A site over a keeper as its callers see it.
use Rattle.common_types.specs.CrashStates.{CrashStates}
use Rattle.host_types.specs.Site.{Site}
use Rattle.host_types.specs.AllChanges.{Changes}
use Rattle.host_types.specs.SiteState.{SiteState}
use Rattle.host_types.specs.declared.site_fault.SiteFault.{SiteFault}
use Rattle.site_store.specs.Lacking.{IsLacking}
use Rattle.site_store.specs.Represented.{site_of, site_state_of}
use Rattle.site_store.specs.declared.disk_site.DiskSite.{DiskSite}

abbrev pub keeper_of : {K : Type 0} {dict : _} → DiskSite K dict → K
keeper_of d = d.keeper

-- what its callers see of it
abbrev pub seen : {K : Type 0} {dict : _} → DiskSite K dict → SiteState
seen {dict = dict} d = site_state_of (dict.store_state d.keeper) d.kept

-- what its changes may lack
abbrev pub lacks_of : {K : Type 0} {dict : _} → DiskSite K dict → Changes → SiteFault → Type 0
lacks_of {dict = dict} d = IsLacking dict.store_state dict.may_need d.keeper (site_of (dict.store_state d.keeper) d.kept)

-- the site that it holds
abbrev pub seen_site : {K : Type 0} {dict : _} → DiskSite K dict → Site
seen_site {dict = dict} d = site_of (dict.store_state d.keeper) d.kept

-- what a crash may leave of it
abbrev pub crashes_of : {K L : Type 0} {dict : _} → (K → CrashStates L) → DiskSite K dict → CrashStates L
crashes_of crash_states d = crash_states d.keeper
