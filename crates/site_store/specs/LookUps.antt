-- Looking up the items of the site that is kept, while a change of it is planned.
use Rattle.std.specs.Prelude.{◌≡◌, ℕ, false, List, IsTrue}
use Rattle.common_types.specs.Counts.{counted}
use Rattle.host_types.specs.Site.{Site}
use Rattle.host_types.specs.CrashStates.{CrashStates}
use Rattle.host_types.specs.declared.site_fault.SiteFault.{SiteFault}
use Rattle.host_types.specs.declared.site_fault.SiteFault.TheVariants as faults
use Rattle.page_store.specs.StoreState.{StoreState, CommitNeed}
use Rattle.page_store.specs.declared.edit.Edit.{Edit}
use Rattle.site_store.specs.Represented.{RepresentedBy}
use Rattle.site_store.specs.StoreReads.{StoreReadsOnly, NoneFailed}

-- The site that an honest keeper holds is shown.
abbrev pub IsShown : {K : Type 0} → (K → StoreState) → K → Site → Type 0
IsShown store_state k s = IsTrue (store_state k).honest × RepresentedBy (store_state k) s

-- What look-ups leave that don't fail: no read has failed.
pub record HasFound {K L : Type 0} (store_state : K → StoreState) (may_need : K → List Edit → CommitNeed → Type 0) (crash_states : K → CrashStates L) (old new : K) : Type 0 where
  pub reads_only : StoreReadsOnly store_state may_need crash_states old new
  pub none : NoneFailed (store_state old) (store_state new)

-- Why a look-up fails, and what it counts: a read that failed, and nothing else.
abbrev pub IsLookUpFault : StoreState → StoreState → SiteFault → Type 0
IsLookUpFault old new (faults.Refused r) = ⊥
IsLookUpFault old new faults.Read = IsTrue old.honest → (s : Site) → RepresentedBy old s → new.failed_reads ≡ counted old.failed_reads
IsLookUpFault old new (faults.Full need free) = ⊥
IsLookUpFault old new faults.Spent = ⊥
IsLookUpFault old new faults.Deep = ⊥
IsLookUpFault old new faults.Failed = old.usable ≡ false
IsLookUpFault old new faults.Memory = NoneFailed old new

-- What look-ups leave of which the last fails with this fault.
pub record HasNotFound {K L : Type 0} (store_state : K → StoreState) (may_need : K → List Edit → CommitNeed → Type 0) (crash_states : K → CrashStates L) (old new : K) (fault : SiteFault) : Type 0 where
  pub reads_only : StoreReadsOnly store_state may_need crash_states old new
  pub cause : IsLookUpFault (store_state old) (store_state new) fault
