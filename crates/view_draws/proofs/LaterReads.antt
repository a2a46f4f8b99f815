-- One call that only reads after another.
use Rattle.std.proofs.Common.{◌≡◌, ◌≤◌, ℕ, ◌∙◌, ap, sym, subst, arith, refl, inl, inr}
use Rattle.std.specs.Prelude.{IsTrue, false, map, ◌==◌}
use Rattle.std.specs.Map.{lookup}
use Rattle.std.proofs.lemmas.Bool.{cases_lt}
use Rattle.common_types.specs.CrashStates.{CrashStates, no_new_crash_state, adds_none_again}
use Rattle.host_types.specs.AllChanges.{Changes}
use Rattle.host_types.specs.SiteState.{SiteState, HasRead, LacksTheSame, IsReadFault, Rose}
use Rattle.host_types.specs.Pins.{Pinned, Copied, Numbered, is_out, is_among, pinned_items, items_or_none}
use Rattle.host_types.specs.declared.change.Change.{Change}
use Rattle.host_types.specs.declared.site_fault.SiteFault.{SiteFault}
use Rattle.host_types.specs.declared.site_fault.SiteFault.TheVariants as faults
use Rattle.host_types.specs.SiteCalls.{ReadsOnly}

pub still_honest : (a b : SiteState) → HasRead a b → IsTrue a.honest → IsTrue b.honest
still_honest a b kept honest = subst IsTrue (sym kept.honest) honest

-- nothing was read
nothing_read : (h : SiteState) → HasRead h h
nothing_read h = record { site = λ honest. refl; honest = refl; usable = refl; free = refl; reads = omega arith; writes = refl; pins = refl }

pub only_none : {K L : Type 0} (site_state : K → SiteState) (lacks : K → Changes → SiteFault → Type 0) (crash_states : K → CrashStates L) (a : K) → ReadsOnly site_state lacks crash_states a a
only_none site_state lacks crash_states a = record {
  kept = nothing_read (site_state a);
  lacking = record { after = λ changes fault lacks. lacks; before = λ changes fault lacks. lacks };
  no_new_crash_state = λ honest. no_new_crash_state (crash_states a);
}

read_on : (a b c : SiteState) → HasRead a b → HasRead b c → HasRead a c
read_on a b c first second = record {
  site = λ honest. second.site (still_honest a b first honest) ∙ first.site honest;
  honest = second.honest ∙ first.honest;
  usable = second.usable ∙ first.usable;
  free = second.free ∙ first.free;
  reads = omega (arith, first.reads, second.reads);
  writes = second.writes ∙ first.writes;
  pins = second.pins ∙ first.pins;
}

lacking_on : (a b c : Changes → SiteFault → Type 0) → LacksTheSame a b → LacksTheSame b c → LacksTheSame a c
lacking_on a b c first second = record {
  after = λ changes fault lacks. second.after changes fault (first.after changes fault lacks);
  before = λ changes fault lacks. first.before changes fault (second.before changes fault lacks);
}

pub only_on : {K L : Type 0} (site_state : K → SiteState) (lacks : K → Changes → SiteFault → Type 0) (crash_states : K → CrashStates L) (a b c : K) → ReadsOnly site_state lacks crash_states a b → ReadsOnly site_state lacks crash_states b c → ReadsOnly site_state lacks crash_states a c
only_on site_state lacks crash_states a b c first second = record {
  kept = read_on (site_state a) (site_state b) (site_state c) first.kept second.kept;
  lacking = lacking_on (lacks a) (lacks b) (lacks c) first.lacking second.lacking;
  no_new_crash_state = λ honest. adds_none_again (crash_states a) (crash_states b) (crash_states c) (first.no_new_crash_state honest) (second.no_new_crash_state (still_honest (site_state a) (site_state b) first.kept honest));
}

-- a count that has risen since later has risen since before
rose_since : (a b c : ℕ) → a ≤ b → b ≤ c → Rose b c → Rose a c
rose_since a b c le later (inl less) = inl (omega arith)
rose_since a b c le later (inr full) = elim (cases_lt a b) [ inl below ↦ inl (omega arith) | inr above ↦ inr (omega arith) ]

-- a fault of a later call is one of both together
pub fault_since : (a b c : SiteState) (e : SiteFault) → HasRead a b → HasRead b c → IsReadFault false b c e → IsReadFault false a c e
fault_since a b c (faults.Refused r) first second fault = absurd fault
fault_since a b c faults.Read first second fault = λ honest. rose_since a.failed_reads b.failed_reads c.failed_reads first.reads second.reads (fault (still_honest a b first honest))
fault_since a b c (faults.Full need free) first second fault = absurd fault
fault_since a b c faults.Spent first second fault = absurd fault
fault_since a b c faults.Deep first second fault = absurd fault
fault_since a b c faults.Failed first second fault = sym first.usable ∙ fault
fault_since a b c faults.Memory first second fault = fault

-- the items that a pin keeps stay
pub pinned_same : (a b : SiteState) (pin : Pinned) → HasRead a b → pinned_items b pin ≡ pinned_items a pin
pinned_same a b (Copied items) read = refl
pinned_same a b (Numbered n) read = ap (λ pins. items_or_none (lookup (λ m. m == n) pins)) read.pins

-- a pin that is out stays out
pub out_same : (a b : SiteState) (pin : Pinned) → HasRead a b → IsTrue (is_out a pin) → IsTrue (is_out b pin)
out_same a b (Copied items) read out = out
out_same a b (Numbered n) read out = subst (λ pins. IsTrue (is_among n (map (λ pin. pin.0) pins))) (sym read.pins) out
