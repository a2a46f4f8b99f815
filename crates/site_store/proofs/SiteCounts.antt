-- What the calls of a site over a key-value store count, by what the store counts.
use Rattle.std.proofs.Common.{◌≡◌, ℕ, Bool, true, false, List, Result, refl, sym, ap, subst, ◌∙◌}
use Rattle.std.specs.Prelude.{IsTrue}
use Rattle.common_types.specs.Counts.{counted}
use Rattle.host_types.specs.Site.{Site}
use Rattle.host_types.specs.Counting as sites
use Rattle.common_types.specs.declared.refused.Refused.{Refused}
use Rattle.host_types.specs.declared.site_fault.SiteFault.{SiteFault}
use Rattle.host_types.specs.declared.site_fault.SiteFault.TheVariants as faults
use Rattle.page_store.specs.StoreState.{StoreState, CommitNeed, StoreHasRead, IsStoreReadFault, IsCommitFault}
use Rattle.page_store.specs.Counting.{reads_after, writes_after}
use Rattle.page_store.specs.declared.edit.Edit.{Edit}
use Rattle.page_store.specs.declared.fault.KeeperFault.{KeeperFault}
use Rattle.page_store.specs.declared.fault.KeeperFault.TheVariants as kinds
use Rattle.host_types.specs.CrashStates.{CrashStates}
use Rattle.change_plan.specs.Plans.{IsPlanFault, IfRefused}
use Rattle.change_plan.specs.AllPlans.{ShowsValid}
use Rattle.site_store.specs.LookUps.{IsShown, HasFound, HasNotFound}
use Rattle.site_store.specs.Represented.{HasSite, site_of, site_kept}
use Rattle.site_store.specs.StoreFault.{site_fault_of, store_site_fault_of}
use Rattle.site_store.specs.StoreReads.{IsSiteReadFault, NoneFailed}
use Rattle.site_store.specs.declared.fault.SiteOpenFault.{SiteOpenFault}
use Rattle.site_store.specs.declared.fault.SiteOpenFault.TheVariants.{BadRecord, Keeper, Memory}

no_truth : (b : Bool) → IsTrue b → b ≡ false → ⊥
no_truth b t f = let clash : true ≡ false = sym t ∙ f in cc clash

-- ---- calls that read

pub store_read_counted : (a b : StoreState) (fault : KeeperFault) → IsStoreReadFault a b fault → b.failed_reads ≡ reads_after fault a.failed_reads → sites.IsReadCounted a.honest (store_site_fault_of fault) a.failed_reads b.failed_reads
store_read_counted a b kinds.Device h is = λ honest. is
store_read_counted a b kinds.NoImage h is = absurd h
store_read_counted a b kinds.Version h is = absurd h
store_read_counted a b (kinds.Damaged page) h is = λ honest. absurd (no_truth a.honest honest h)
store_read_counted a b kinds.Small h is = absurd h
store_read_counted a b kinds.Spent h is = absurd h
store_read_counted a b kinds.Deep h is = absurd h
store_read_counted a b (kinds.Full need free) h is = absurd h
store_read_counted a b kinds.Failed h is = is
store_read_counted a b kinds.Memory h is = absurd h

pub read_counted : (a b : StoreState) (ka : HasSite a) (fault : SiteOpenFault) (to_site_fault : SiteFault) → to_site_fault ≡ site_fault_of fault → IsSiteReadFault a b fault → sites.IsReadCounted a.honest to_site_fault a.failed_reads b.failed_reads
read_counted a b ka fault to_site_fault is h = subst (λ (f : SiteFault). sites.IsReadCounted a.honest f a.failed_reads b.failed_reads) (sym is) (by fault h)
  where
    by : (fault : SiteOpenFault) → IsSiteReadFault a b fault → sites.IsReadCounted a.honest (site_fault_of fault) a.failed_reads b.failed_reads
    by BadRecord h = λ honest. absurd (h.1 honest (site_of a ka, site_kept a ka honest))
    by (Keeper fault) h = store_read_counted a b fault h.0 h.1
    by Memory h = h

-- ---- changes

-- a keeper that is closed counts nothing
pub closed_counts : (usable : Bool) (count : ℕ) → usable ≡ false → count ≡ sites.writes_after usable faults.Failed count
closed_counts usable count closed = rw closed refl

module _ {D K L : Type 0} (keeper : D → K) (store_state : K → StoreState) (may_need : K → List Edit → CommitNeed → Type 0) (crash_states : K → CrashStates L) where
  -- a change that was not planned counts what its look-ups do
  pub plan_counted : (d0 d1 : D) (ka : HasSite (store_state (keeper d0))) (applied : Site → Result Site Refused) (fault : SiteFault) → (store_state (keeper d0)).usable ≡ true
      → IsPlanFault (ShowsValid (λ d. IsShown store_state (keeper d))) (λ a b. HasNotFound store_state may_need crash_states (keeper a) (keeper b)) d0 d1 applied fault
      → IfRefused fault (HasFound store_state may_need crash_states (keeper d0) (keeper d1))
      → sites.IsReadCounted (store_state (keeper d0)).honest fault (store_state (keeper d0)).failed_reads (store_state (keeper d1)).failed_reads
  plan_counted d0 d1 ka applied (faults.Refused r) up h found = found.none
  plan_counted d0 d1 ka applied faults.Read up h found = λ honest. let a = store_state (keeper d0) in h.cause honest (site_of a ka) (site_kept a ka honest)
  plan_counted d0 d1 ka applied (faults.Full need free) up h found = absurd h.cause
  plan_counted d0 d1 ka applied faults.Spent up h found = absurd h.cause
  plan_counted d0 d1 ka applied faults.Deep up h found = absurd h.cause
  plan_counted d0 d1 ka applied faults.Failed up h found = absurd (no_truth (store_state (keeper d0)).usable up h.cause)
  plan_counted d0 d1 ka applied faults.Memory up h found = h.cause

  -- and no write
  pub plan_writes : (d0 d1 : D) (applied : Site → Result Site Refused) (fault : SiteFault) → (store_state (keeper d0)).usable ≡ true
      → IsPlanFault (ShowsValid (λ d. IsShown store_state (keeper d))) (λ a b. HasNotFound store_state may_need crash_states (keeper a) (keeper b)) d0 d1 applied fault
      → (store_state (keeper d1)).failed_writes ≡ (store_state (keeper d0)).failed_writes
      → (store_state (keeper d1)).failed_writes ≡ sites.writes_after (store_state (keeper d0)).usable fault (store_state (keeper d0)).failed_writes
  plan_writes d0 d1 applied (faults.Refused r) up h same = rw up same
  plan_writes d0 d1 applied faults.Read up h same = rw up same
  plan_writes d0 d1 applied (faults.Full need free) up h same = absurd h.cause
  plan_writes d0 d1 applied faults.Spent up h same = absurd h.cause
  plan_writes d0 d1 applied faults.Deep up h same = absurd h.cause
  plan_writes d0 d1 applied faults.Failed up h same = absurd (no_truth (store_state (keeper d0)).usable up h.cause)
  plan_writes d0 d1 applied faults.Memory up h same = rw up same

-- a commit counts as the store's does, whose look-ups before failed in nothing
pub commit_reads : (a b c : StoreState) (edits : ℕ) (may : CommitNeed → Type 0) (fault : KeeperFault) → StoreHasRead a b → NoneFailed a b → IsCommitFault b c edits may fault → c.failed_reads ≡ reads_after fault b.failed_reads
    → sites.IsReadCounted a.honest (store_site_fault_of fault) a.failed_reads c.failed_reads
commit_reads a b c edits may kinds.Device read none h is = λ honest. is ∙ ap counted none
commit_reads a b c edits may kinds.NoImage read none h is = absurd h
commit_reads a b c edits may kinds.Version read none h is = absurd h
commit_reads a b c edits may (kinds.Damaged page) read none h is = λ honest. absurd (no_truth b.honest (read.honest ∙ honest) h.1)
commit_reads a b c edits may kinds.Small read none h is = absurd h
commit_reads a b c edits may kinds.Spent read none h is = is ∙ none
commit_reads a b c edits may kinds.Deep read none h is = is ∙ none
commit_reads a b c edits may (kinds.Full need free) read none h is = is ∙ none
commit_reads a b c edits may kinds.Failed read none h is = is ∙ none
commit_reads a b c edits may kinds.Memory read none h is = is ∙ none

writes_as_store : (fault : KeeperFault) (before now : ℕ) → now ≡ writes_after true fault before → now ≡ sites.writes_after true (store_site_fault_of fault) before
writes_as_store kinds.Device before now is = is
writes_as_store kinds.NoImage before now is = is
writes_as_store kinds.Version before now is = is
writes_as_store (kinds.Damaged page) before now is = is
writes_as_store kinds.Small before now is = is
writes_as_store kinds.Spent before now is = is
writes_as_store kinds.Deep before now is = is
writes_as_store (kinds.Full need free) before now is = is
writes_as_store kinds.Failed before now is = is
writes_as_store kinds.Memory before now is = is

pub commit_writes : (a b c : StoreState) (fault : KeeperFault) → StoreHasRead a b → a.usable ≡ true → c.failed_writes ≡ writes_after b.usable fault b.failed_writes → c.failed_writes ≡ sites.writes_after a.usable (store_site_fault_of fault) a.failed_writes
commit_writes a b c fault read up is =
    let of_store : c.failed_writes ≡ writes_after true fault a.failed_writes = is ∙ ap (λ (u : Bool). writes_after u fault b.failed_writes) (read.same.usable ∙ up) ∙ ap (writes_after true fault) read.writes in
    rw up (writes_as_store fault a.failed_writes c.failed_writes of_store)
