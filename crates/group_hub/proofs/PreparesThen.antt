-- Calls that only read, and may pin the site, one after another.
use Rattle.std.proofs.Common.{◌≡◌, ℕ, Bool, sym, subst, ◌∙◌, arith}
use Rattle.std.specs.Prelude.{Result, Ok, Err, IsErrAnd, OnOk, IfErr, IsTrue}
use Rattle.host_types.specs.AllChanges.{Changes}
use Rattle.host_types.specs.SiteState.{SiteState, Rose}
use Rattle.host_types.specs.CrashStates.{CrashStates, adds_none_again}
use Rattle.host_types.specs.declared.site_fault.SiteFault.{SiteFault}
use Rattle.site_replies.proofs.AfterReads.{lacking_on}
use Rattle.group_world.specs.declared.fault.HubFault.{HubFault}
use Rattle.group_world.specs.declared.fault.HubFault.TheVariants as hub
use Rattle.group_hub.specs.Counting.{IsHubReadCounted, HubCountsReads}
use Rattle.group_hub.specs.Preparing.{IsPrepareFault, Prepares}

-- what went well
abbrev pub done : Result (Unit {0}) HubFault
done = Ok tt

-- A fault that is passed on says nothing of what went well.
pub not_ok : {T : Type 0} (P : Type 0) (r : Result T HubFault) (fault : HubFault) → IsErrAnd r (λ e. e ≡ fault) → OnOk r P
not_ok P (Ok x) fault is = absurd is
not_ok P (Err e) fault is = tt

-- ---- faults and counts behind a call that succeeded

fault_behind : (a b c : SiteState) (fault : HubFault) → b.honest ≡ a.honest → b.failed_reads ≡ a.failed_reads → IsPrepareFault b c fault → IsPrepareFault a c fault
fault_behind a b c hub.Memory same none is = tt
fault_behind a b c hub.Broken same none is = λ honest. subst (λ (n : ℕ). Rose n c.failed_reads) none (is (subst IsTrue (sym same) honest))
fault_behind a b c hub.Unknown same none is = is
fault_behind a b c hub.Crowded same none is = is
fault_behind a b c hub.Spent same none is = is
fault_behind a b c (hub.Refused refused) same none is = is
fault_behind a b c (hub.Full need free) same none is = is
fault_behind a b c hub.Failed same none is = is
fault_behind a b c hub.NotReady same none is = is
fault_behind a b c hub.Deep same none is = is

faults_behind : {T : Type 0} (r : Result T HubFault) (a b c : SiteState) → b.honest ≡ a.honest → b.failed_reads ≡ a.failed_reads → IfErr r (IsPrepareFault b c) → IfErr r (IsPrepareFault a c)
faults_behind (Ok x) a b c same none is = tt
faults_behind (Err fault) a b c same none is = fault_behind a b c fault same none is

pub counts_behind : {T : Type 0} (r : Result T HubFault) (a b c : SiteState) → b.honest ≡ a.honest → b.failed_reads ≡ a.failed_reads → HubCountsReads r b c → HubCountsReads r a c
counts_behind (Ok x) a b c same none is = is ∙ none
counts_behind (Err fault) a b c same none is = subst (λ (h : Bool). IsHubReadCounted h fault a.failed_reads c.failed_reads) same (subst (λ (n : ℕ). IsHubReadCounted b.honest fault n c.failed_reads) none is)

module _ {K L : Type 0} (site_state : K → SiteState) (lacks : K → Changes → SiteFault → Type 0) (crash_states : K → CrashStates L) where
  abbrev PreparesSo : {T : Type 0} → K → K → Result T HubFault → Type 0
  PreparesSo a b r = Prepares site_state lacks crash_states a b r

  pub prepares_then : {T U : Type 0} (a b c : K) (x : U) (r : Result T HubFault) → PreparesSo a b (Ok x) → PreparesSo b c r → PreparesSo a c r
  prepares_then a b c x r first second = record {
    site = λ honest. second.site (on honest) ∙ first.site honest;
    honest = second.honest ∙ first.honest;
    usable = second.usable ∙ first.usable;
    free = second.free ∙ first.free;
    reads = counts_behind r (site_state a) (site_state b) (site_state c) first.honest first.reads second.reads;
    more = omega (arith, first.more, second.more);
    writes = second.writes ∙ first.writes;
    lacking = lacking_on (lacks a) (lacks b) (lacks c) first.lacking second.lacking;
    no_new_crash_state = λ honest. adds_none_again (crash_states a) (crash_states b) (crash_states c) (first.no_new_crash_state honest) (second.no_new_crash_state (on honest));
    fault = faults_behind r (site_state a) (site_state b) (site_state c) first.honest first.reads second.fault;
  }
    where
      on : IsTrue (site_state a).honest → IsTrue (site_state b).honest
      on honest = subst IsTrue (sym first.honest) honest

  -- what it gives is nothing to its keeper
  pub prepares_as : {T U : Type 0} (a b : K) (x : T) (y : U) → PreparesSo a b (Ok x) → PreparesSo a b (Ok y)
  prepares_as a b x y is = record { site = is.site; honest = is.honest; usable = is.usable; free = is.free; reads = is.reads; more = is.more; writes = is.writes; lacking = is.lacking; no_new_crash_state = is.no_new_crash_state; fault = tt }

  pub prepares_not : {T U : Type 0} (a b : K) (fault : HubFault) → PreparesSo {T = T} a b (Err fault) → PreparesSo {T = U} a b (Err fault)
  prepares_not a b fault is = record { site = is.site; honest = is.honest; usable = is.usable; free = is.free; reads = is.reads; more = is.more; writes = is.writes; lacking = is.lacking; no_new_crash_state = is.no_new_crash_state; fault = is.fault }

  -- a fault that is passed on
  pub prepares_on : {T U V : Type 0} (a b c : K) (x : V) (r : Result T HubFault) (fault : HubFault) → IsErrAnd r (λ e. e ≡ fault) → PreparesSo a b (Ok x) → PreparesSo {T = U} b c (Err fault) → PreparesSo a c r
  prepares_on a b c x (Ok y) fault is first second = absurd is
  prepares_on {T = T} a b c x (Err e) fault is first second =
      prepares_then a b c x (Err e) first (subst (λ (f : HubFault). PreparesSo {T = T} b c (Err f)) (sym is) (prepares_not b c fault second))
