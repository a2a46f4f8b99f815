-- When a fault of a hub may come, by what its keeper was and is.
use Rattle.std.specs.Prelude.{◌≡◌, true, false, IsTrue}
use Rattle.host_types.specs.AllChanges.{Changes}
use Rattle.host_types.specs.SiteState.{SiteState, Rose}
use Rattle.host_types.specs.declared.site_fault.SiteFault.{SiteFault}
use Rattle.group_world.specs.World.{World}
use Rattle.group_world.specs.Calls.{IsHeardCause}
use Rattle.group_world.specs.declared.fault.HubFault.{HubFault}
use Rattle.group_world.specs.declared.fault.HubFault.TheVariants as hub

-- The administrator's change may be refused too, and asks no session.
abbrev pub IsAdminCause : (Changes → SiteFault → Type 0) → Changes → SiteState → SiteState → HubFault → Type 0
IsAdminCause lacks changes old new (hub.Refused refused) = old.usable ≡ true
IsAdminCause lacks changes old new hub.Unknown = ⊥
IsAdminCause lacks changes old new hub.Crowded = ⊥
IsAdminCause lacks changes old new fault = IsHeardCause lacks changes old new fault

-- A draw reads at most: `Broken` only where the count of failed reads rose, and `Failed` only where a write or a sync had failed before.
abbrev pub IsDrawCause : SiteState → SiteState → HubFault → Type 0
IsDrawCause old new hub.Unknown = old.usable ≡ true
IsDrawCause old new hub.NotReady = old.usable ≡ true
IsDrawCause old new hub.Broken = (old.usable ≡ true) × (IsTrue old.honest → Rose old.failed_reads new.failed_reads)
IsDrawCause old new hub.Failed = old.usable ≡ false
IsDrawCause old new fault = ⊥

-- After a fault the world is as before; only a first `Failed` marks it.
abbrev pub IsAsBefore : HubFault → World → World → Type 0
IsAsBefore hub.Failed old new = Unit {0}
IsAsBefore fault old new = new ≡ old
