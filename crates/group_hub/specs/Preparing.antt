-- What calls that read a site, and may pin it, leave of its keeper.
use Rattle.std.specs.Prelude.{◌≡◌, ◌≤◌, Result, IfErr, IsTrue}
use Rattle.host_types.specs.AllChanges.{Changes}
use Rattle.host_types.specs.SiteState.{SiteState, Rose, HasRead, LacksTheSame}
use Rattle.host_types.specs.CrashStates.{CrashStates, AddsNone}
use Rattle.host_types.specs.declared.site_fault.SiteFault.{SiteFault}
use Rattle.group_world.specs.declared.fault.HubFault.{HubFault}
use Rattle.group_world.specs.declared.fault.HubFault.TheVariants as hub
use Rattle.group_hub.specs.Counting.{HubCountsReads}

-- What a call that only reads leaves of a keeper.
pub record KeeperOnlyReads {K L : Type 0} (site_state : K → SiteState) (lacks : K → Changes → SiteFault → Type 0) (crash_states : K → CrashStates L) (old new : K) : Type 0 where
  pub kept : HasRead (site_state old) (site_state new)
  pub lacking : LacksTheSame (lacks old) (lacks new)
  pub no_new_crash_state : IsTrue (site_state old).honest → AddsNone (crash_states old) (crash_states new)

-- When a call that only reads, and may pin the site, gives nothing.
abbrev pub IsPrepareFault : SiteState → SiteState → HubFault → Type 0
IsPrepareFault old new hub.Memory = Unit {0}
IsPrepareFault old new hub.Broken = IsTrue old.honest → Rose old.failed_reads new.failed_reads
IsPrepareFault old new fault = ⊥

-- What a call that only reads, and may pin the site, leaves of a keeper.
pub record Prepares {T K L : Type 0} (site_state : K → SiteState) (lacks : K → Changes → SiteFault → Type 0) (crash_states : K → CrashStates L) (old new : K) (result : Result T HubFault) : Type 0 where
  pub site : IsTrue (site_state old).honest → (site_state new).site ≡ (site_state old).site
  pub honest : (site_state new).honest ≡ (site_state old).honest
  pub usable : (site_state new).usable ≡ (site_state old).usable
  pub free : (site_state new).free ≡ (site_state old).free
  pub reads : HubCountsReads result (site_state old) (site_state new)
  pub more : (site_state old).failed_reads ≤ (site_state new).failed_reads
  pub writes : (site_state new).failed_writes ≡ (site_state old).failed_writes
  pub lacking : LacksTheSame (lacks old) (lacks new)
  pub no_new_crash_state : IsTrue (site_state old).honest → AddsNone (crash_states old) (crash_states new)
  pub fault : IfErr result (IsPrepareFault (site_state old) (site_state new))
