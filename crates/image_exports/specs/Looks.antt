-- What a call leaves that reads a site, and may pin it meanwhile.
use Rattle.std.specs.Prelude.{◌≡◌, Result, OnOk, IfErr, IsTrue, true}
use Rattle.host_types.specs.SiteState.{SiteState, IsReadFault}
use Rattle.host_types.specs.CrashStates.{CrashStates, AddsNone}
use Rattle.host_types.specs.declared.site_fault.SiteFault.{SiteFault}
use Rattle.image_items.specs.Looks.{HasLooked}

-- Nothing of the site changes, nothing is written, a fault has its cause, and where there is none no read has failed.
pub record Looks {T K L : Type 0} (site_state : K → SiteState) (crash_states : K → CrashStates L) (old new : K) (result : Result T SiteFault) : Type 0 where
  pub looked : HasLooked (site_state old) (site_state new)
  pub no_new_crash_state : IsTrue (site_state old).honest → AddsNone (crash_states old) (crash_states new)
  pub fault : IfErr result (IsReadFault true (site_state old) (site_state new))
  pub counts : OnOk result ((site_state new).failed_reads ≡ (site_state old).failed_reads)
