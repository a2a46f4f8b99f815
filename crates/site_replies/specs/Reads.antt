-- What a call that only reads a site answers and leaves.
use Rattle.std.specs.Prelude.{ℕ, Result, IfOk, IfErr, IsTrue, true}
use Rattle.host_types.specs.AllChanges.{Changes}
use Rattle.host_types.specs.Site.{Site}
use Rattle.host_types.specs.SiteCalls.{ReadsOnly}
use Rattle.host_types.specs.SiteState.{SiteState, IsReadFault}
use Rattle.host_types.specs.Counting.{CountsReads}
use Rattle.host_types.specs.CrashStates.{CrashStates}
use Rattle.host_types.specs.declared.change.Change.{Change}
use Rattle.host_types.specs.declared.site_fault.SiteFault.{SiteFault}

-- An honest site gives this answer, by what it is; nothing of it changes, a fault has its cause, and a read that fails is counted once.
pub record ReadsSite {T K L : Type 0} (site_state : K → SiteState) (lacks : K → Changes → SiteFault → Type 0) (crash_states : K → CrashStates L) (old new : K) (result : Result T SiteFault) (answer : Site → T → Type 0) : Type 0 where
  pub gives : IsTrue (site_state old).honest → IfOk result (answer (site_state old).site)
  pub only : ReadsOnly site_state lacks crash_states old new
  pub fault : IfErr result (IsReadFault true (site_state old) (site_state new))
  pub counts : CountsReads result (site_state old) (site_state new)
