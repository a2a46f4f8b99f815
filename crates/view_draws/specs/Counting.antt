-- What the reads of a draw count.
use Rattle.std.specs.Prelude.{◌≡◌, ◌⊎◌, ℕ, Bool, false, Result, Ok, Err, IfErr, IsTrue, length}
use Rattle.common_types.specs.CrashStates.{CrashStates}
use Rattle.host_types.specs.AllChanges.{Changes}
use Rattle.host_types.specs.Counting.{counted}
use Rattle.host_types.specs.SiteCalls.{ReadsOnly}
use Rattle.host_types.specs.SiteState.{SiteState, IsReadFault}
use Rattle.host_types.specs.Pins.{Pinned}
use Rattle.host_types.specs.declared.site_fault.SiteFault.{SiteFault}
use Rattle.host_types.specs.declared.site_fault.SiteFault.TheVariants as faults
use Rattle.view_draws.specs.Source.{viewed_by}
use Rattle.view_draws.specs.declared.source.ViewSource.{ViewSource}

-- The view that the pin keeps has as many bytes as are known.
abbrev pub HasKnownSize : SiteState → Pinned → ViewSource → Type 0
HasKnownSize h pin source = length (viewed_by h pin source) ≡ source.size

-- The count of failed reads after a fault: a read that failed is counted, once. A view of another size than is known is told so too, and then no read failed. No other fault counts any.
abbrev pub IsViewReadCounted : Bool → Type 0 → SiteFault → ℕ → ℕ → Type 0
IsViewReadCounted honest Sized faults.Read before now = IsTrue honest → (now ≡ counted before) ⊎ ((Sized → ⊥) × (now ≡ before))
IsViewReadCounted honest Sized other before now = now ≡ before

-- how a call that reads chunks of a view goes on with the count of failed reads
abbrev pub CountsViewReads : {T : Type 0} → Pinned → ViewSource → Result T SiteFault → SiteState → SiteState → Type 0
CountsViewReads pin source (Ok _) old new = new.failed_reads ≡ old.failed_reads
CountsViewReads pin source (Err fault) old new = IsViewReadCounted old.honest (HasKnownSize old pin source) fault old.failed_reads new.failed_reads

-- How a call reads chunks of a view. It only reads the site, has its cause where the view has as many bytes as are known, and counts each read that failed.
pub record ReadsView {K L T : Type 0} (site_state : K → SiteState) (lacks : K → Changes → SiteFault → Type 0) (crash_states : K → CrashStates L) (pin : Pinned) (source : ViewSource) (old new : K) (result : Result T SiteFault) : Type 0 where
  pub only : ReadsOnly site_state lacks crash_states old new
  pub fault : (IsTrue (site_state old).honest → HasKnownSize (site_state old) pin source) → IfErr result (IsReadFault false (site_state old) (site_state new))
  pub counts : CountsViewReads pin source result (site_state old) (site_state new)
