-- What a call that reads the pairs of a keeper answers, and what it leaves.
use Rattle.std.specs.Prelude.{◌≡◌, ℕ, false, List, Result, IfOk, OnOk, IfErr, IsErrOf, IsTrue}
use Rattle.host_types.specs.CrashStates.{CrashStates}
use Rattle.page_store.specs.StoreState.{StoreState, CommitNeed}
use Rattle.page_store.specs.declared.edit.Edit.{Edit}
use Rattle.page_store.specs.declared.fault.KeeperFault.TheVariants.{Failed}
use Rattle.site_store.specs.StoreReads.{StoreReadsOnly, NoneFailed, IsFaultUnless}
use Rattle.site_store.specs.declared.fault.SiteOpenFault.{SiteOpenFault}
use Rattle.site_store.specs.declared.fault.SiteOpenFault.TheVariants.{Keeper}

-- `answer` says what may be answered by what is held, and `cause` when a fault may come.
pub record ReadsStore {T K L : Type 0} (store_state : K → StoreState) (may_need : K → List Edit → CommitNeed → Type 0) (crash_states : K → CrashStates L) (old new : K) (result : Result T SiteOpenFault) (cause : StoreState → StoreState → SiteOpenFault → Type 0) (answer : StoreState → T → Type 0) : Type 0 where
  -- an honest keeper gives this answer
  pub gives : IsTrue (store_state old).honest → IfOk result (answer (store_state old))
  -- what is held stays, and nothing is written
  pub only : StoreReadsOnly store_state may_need crash_states old new
  -- where the call is done, no read has failed
  pub none : OnOk result (NoneFailed (store_state old) (store_state new))
  -- a fault has its cause
  pub fault : IfErr result (cause (store_state old) (store_state new))

-- Such a call that reads whatever it is called with.
pub record AlwaysReads {T K L : Type 0} (store_state : K → StoreState) (may_need : K → List Edit → CommitNeed → Type 0) (crash_states : K → CrashStates L) (old new : K) (result : Result T SiteOpenFault) (cause : StoreState → StoreState → SiteOpenFault → Type 0) (answer : StoreState → T → Type 0) : Type 0 where
  -- it is such a call
  pub reads : ReadsStore store_state may_need crash_states old new result cause answer
  -- a keeper that can't be used answers `Failed`
  pub closed : (store_state old).usable ≡ false → IsErrOf result (Keeper Failed)

-- The answer goes by what is known of what is held; where something is known, no record is bad.
abbrev pub ReadsKnown : {T K L W : Type 0} → (K → StoreState) → (K → List Edit → CommitNeed → Type 0) → (K → CrashStates L) → K → K → Result T SiteOpenFault → (StoreState → W → Type 0) → (W → T → Type 0) → Type 0
ReadsKnown {W = W} store_state may_need crash_states old new result known answer = ReadsStore store_state may_need crash_states old new result (λ a. IsFaultUnless ((w : W) × known a w) a) (λ a x. (w : W) → known a w → answer w x)

-- The same of a call that reads whatever it is called with.
abbrev pub AlwaysReadsKnown : {T K L W : Type 0} → (K → StoreState) → (K → List Edit → CommitNeed → Type 0) → (K → CrashStates L) → K → K → Result T SiteOpenFault → (StoreState → W → Type 0) → (W → T → Type 0) → Type 0
AlwaysReadsKnown {W = W} store_state may_need crash_states old new result known answer = AlwaysReads store_state may_need crash_states old new result (λ a. IsFaultUnless ((w : W) × known a w) a) (λ a x. (w : W) → known a w → answer w x)
