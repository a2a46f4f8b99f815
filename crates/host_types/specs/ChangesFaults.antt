-- When a fault may come of several changes that are made in one step.
use Rattle.std.specs.Prelude.{◌≡◌, ℕ, Result, Ok, Err, IsTrue}
use Rattle.host_types.specs.Site.{Site}
use Rattle.host_types.specs.AllChanges.{one_refusal}
use Rattle.host_types.specs.SiteState.{SiteState, IsChangeFault}
use Rattle.common_types.specs.declared.refused.Refused.{Refused}
use Rattle.host_types.specs.declared.site_fault.SiteFault.{SiteFault}
use Rattle.host_types.specs.declared.site_fault.SiteFault.TheVariants as faults
use Rattle.host_types.specs.declared.changes_fault.ChangesFault.{ChangesFault}
use Rattle.host_types.specs.declared.changes_fault.ChangesFault.TheVariants as all_faults

-- the fault of the change at a place
abbrev pub fault_at : ℕ → SiteFault → ChangesFault
fault_at place (faults.Refused refused) = all_faults.RefusedAt place refused
fault_at place faults.Read = all_faults.Read
fault_at place (faults.Full need free) = all_faults.Full need free
fault_at place faults.Spent = all_faults.Spent
fault_at place faults.Deep = all_faults.Deep
fault_at place faults.Failed = all_faults.Failed
fault_at place faults.Memory = all_faults.Memory

-- the fault without its place
abbrev pub one_fault : ChangesFault → SiteFault
one_fault (all_faults.RefusedAt place refused) = faults.Refused refused
one_fault all_faults.Read = faults.Read
one_fault (all_faults.Full need free) = faults.Full need free
one_fault all_faults.Spent = faults.Spent
one_fault all_faults.Deep = faults.Deep
one_fault all_faults.Failed = faults.Failed
one_fault all_faults.Memory = faults.Memory

abbrev pub as_one : {T : Type 0} → Result T ChangesFault → Result T SiteFault
as_one (Ok value) = Ok value
as_one (Err fault) = Err (one_fault fault)

-- A fault of several changes in one step is that of one change which makes as much; of those that are refused it is the first, by its place.
pub record IsChangesFault (lacks : SiteFault → Type 0) (old new : SiteState) (applied : Result Site (ℕ × Refused)) (fault : ChangesFault) : Type 0 where
  pub cause : IsChangeFault lacks old new (one_refusal applied) (one_fault fault)
  pub place : (n : ℕ) (refused : Refused) → fault ≡ all_faults.RefusedAt n refused → IsTrue old.honest → applied ≡ Err (n, refused)
