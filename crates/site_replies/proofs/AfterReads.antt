-- A read leaves the site as it is.
use Rattle.std.proofs.Common.{◌≡◌, ◌≤◌, ℕ, Bool, true, ◌∙◌, ap, sym, subst, arith, refl, inl, inr}
use Rattle.std.specs.Prelude.{IsTrue}
use Rattle.std.proofs.lemmas.Bool.{cases_lt}
use Rattle.host_types.specs.AllChanges.{Changes}
use Rattle.host_types.specs.Address.{Address, address}
use Rattle.host_types.specs.SiteState.{SiteState, HasRead, LacksTheSame, IsReadFault, Rose}
use Rattle.host_types.specs.Counting.{IsReadCounted, CountsReads}
use Rattle.host_types.specs.CrashStates.{CrashStates, AddsNone, no_new_crash_state, adds_none_again}
use Rattle.host_types.specs.declared.change.Change.{Change}
use Rattle.host_types.specs.SiteCalls.{ReadsOnly}
use Rattle.site_replies.specs.Reads.{ReadsSite}
use Rattle.host_types.specs.Site.{Site}
use Rattle.std.specs.Prelude.{Result, Ok, Err, IfOk, IfErr}
use Rattle.host_types.specs.declared.site_fault.SiteFault.{SiteFault}
use Rattle.host_types.specs.declared.site_fault.SiteFault.TheVariants as faults

pub still_honest : (a b : SiteState) → HasRead a b → IsTrue a.honest → IsTrue b.honest
still_honest a b kept honest = subst IsTrue (sym kept.honest) honest

pub same_address : (a b : SiteState) (f : Address) → HasRead a b → IsTrue a.honest → (IsTrue b.honest → f ≡ address b.site) → f ≡ address a.site
same_address a b f kept honest is = is (still_honest a b kept honest) ∙ ap address (kept.site honest)

-- nothing was read
pub nothing_read : (k : SiteState) → HasRead k k
nothing_read k = record { site = λ honest. refl; honest = refl; usable = refl; free = refl; reads = omega arith; writes = refl; pins = refl }

pub nothing_left : {L : Type 0} (s : CrashStates L) → AddsNone s s
nothing_left s = no_new_crash_state s

-- a change may lack the same after one read and then another
pub lacking_on : (a b c : Changes → SiteFault → Type 0) → LacksTheSame a b → LacksTheSame b c → LacksTheSame a c
lacking_on a b c first second = record {
  after = λ changes fault lacks. second.after changes fault (first.after changes fault lacks);
  before = λ changes fault lacks. first.before changes fault (second.before changes fault lacks);
}

pub same_lacking : (a : Changes → SiteFault → Type 0) → LacksTheSame a a
same_lacking a = record { after = λ changes fault lacks. lacks; before = λ changes fault lacks. lacks }

pub reads_on : (a b c : SiteState) → HasRead a b → HasRead b c → HasRead a c
reads_on a b c first second = record {
  site = λ honest. second.site (still_honest a b first honest) ∙ first.site honest;
  honest = second.honest ∙ first.honest;
  usable = second.usable ∙ first.usable;
  free = second.free ∙ first.free;
  reads = omega (arith, first.reads, second.reads);
  writes = second.writes ∙ first.writes;
  pins = second.pins ∙ first.pins;
}

pub none_added_on : {L : Type 0} (a b : SiteState) (p q r : CrashStates L) → HasRead a b → (IsTrue a.honest → AddsNone p q) → (IsTrue b.honest → AddsNone q r) → IsTrue a.honest → AddsNone p r
none_added_on a b p q r kept first second honest = adds_none_again p q r (first honest) (second (still_honest a b kept honest))

-- a count that has risen since later has risen since before
rose_since : (a b c : ℕ) → a ≤ b → b ≤ c → Rose b c → Rose a c
rose_since a b c le later (inl less) = inl (omega arith)
rose_since a b c le later (inr full) = elim (cases_lt a b) [ inl below ↦ inl (omega arith) | inr above ↦ inr (omega arith) ]

-- a fault of a later call is one of both together
pub fault_since : (wants : Bool) (a b c : SiteState) (e : SiteFault) → HasRead a b → HasRead b c → IsReadFault wants b c e → IsReadFault wants a c e
fault_since wants a b c (faults.Refused r) first second fault = absurd fault
fault_since wants a b c faults.Read first second fault = λ honest. rose_since a.failed_reads b.failed_reads c.failed_reads first.reads second.reads (fault (still_honest a b first honest))
fault_since wants a b c (faults.Full need free) first second fault = absurd fault
fault_since wants a b c faults.Spent first second fault = absurd fault
fault_since wants a b c faults.Deep first second fault = absurd fault
fault_since wants a b c faults.Failed first second fault = sym first.usable ∙ fault
fault_since wants a b c faults.Memory first second fault = fault

-- one call that only reads after another
pub only_on : {K L : Type 0} (site_state : K → SiteState) (lacks : K → Changes → SiteFault → Type 0) (crash_states : K → CrashStates L) (a b c : K) → ReadsOnly site_state lacks crash_states a b → ReadsOnly site_state lacks crash_states b c → ReadsOnly site_state lacks crash_states a c
only_on site_state lacks crash_states a b c first second = record {
  kept = reads_on (site_state a) (site_state b) (site_state c) first.kept second.kept;
  lacking = lacking_on (lacks a) (lacks b) (lacks c) first.lacking second.lacking;
  no_new_crash_state = none_added_on (site_state a) (site_state b) (crash_states a) (crash_states b) (crash_states c) first.kept first.no_new_crash_state second.no_new_crash_state;
}

pub only_none : {K L : Type 0} (site_state : K → SiteState) (lacks : K → Changes → SiteFault → Type 0) (crash_states : K → CrashStates L) (a : K) → ReadsOnly site_state lacks crash_states a a
only_none site_state lacks crash_states a = record { kept = nothing_read (site_state a); lacking = same_lacking (lacks a); no_new_crash_state = λ honest. no_new_crash_state (crash_states a) }

-- what a call that succeeds gives
pub ok_gives : {T K L : Type 0} {site_state : K → SiteState} {lacks : K → Changes → SiteFault → Type 0} {crash_states : K → CrashStates L} {old new : K} {result : Result T SiteFault} {answer : Site → T → Type 0} (value : T) → ReadsSite site_state lacks crash_states old new result answer → result ≡ Ok value → IsTrue (site_state old).honest → answer (site_state old).site value
ok_gives {site_state = site_state} {old = old} {answer = answer} value reads is honest = subst (λ r. IfOk r (answer (site_state old).site)) is (reads.gives honest)

pub faults_since : {T : Type 0} (result : Result T SiteFault) (a b c : SiteState) → HasRead a b → HasRead b c → IfErr result (IsReadFault true b c) → IfErr result (IsReadFault true a c)
faults_since (Ok value) a b c first second fault = tt
faults_since (Err e) a b c first second fault = fault_since true a b c e first second fault

-- a call after one of which no read failed counts as both together
pub counts_since : {T : Type 0} (result : Result T SiteFault) (a b c : SiteState) → b.honest ≡ a.honest → b.failed_reads ≡ a.failed_reads → CountsReads result b c → CountsReads result a c
counts_since (Ok value) a b c honest none is = is ∙ none
counts_since (Err fault) a b c honest none is = subst (λ (h : Bool). IsReadCounted h fault a.failed_reads c.failed_reads) honest (subst (λ (n : ℕ). IsReadCounted b.honest fault n c.failed_reads) none is)
