-- One call after another that reads a site, and may pin it meanwhile.
use Rattle.std.proofs.Common.{◌≡◌, ℕ, true, Ok, Err, refl, sym, subst, ◌∙◌, arith, IsTrue}
use Rattle.std.specs.Prelude.{Result, OnOk, IfErr}
use Rattle.host_types.specs.CrashStates.{CrashStates, adds_none_again, no_new_crash_state}
use Rattle.host_types.specs.SiteState.{SiteState, IsReadFault, Rose}
use Rattle.host_types.specs.declared.site_fault.SiteFault.{SiteFault}
use Rattle.host_types.specs.declared.site_fault.SiteFault.TheVariants as faults
use Rattle.image_items.specs.Looks.{HasLooked}
use Rattle.image_items.proofs.Looked.{then as looked_then}
use Rattle.image_exports.specs.Looks.{Looks}

since : (a b d : SiteState) (fault : SiteFault) → HasLooked a b → b.failed_reads ≡ a.failed_reads → IsReadFault true b d fault → IsReadFault true a d fault
since a b d (faults.Refused r) kept none is = absurd is
since a b d faults.Read kept none is = λ honest. subst (λ (n : ℕ). Rose n d.failed_reads) none (is (kept.honest ∙ honest))
since a b d (faults.Full need free) kept none is = absurd is
since a b d faults.Spent kept none is = absurd is
since a b d faults.Deep kept none is = absurd is
since a b d faults.Failed kept none is = sym kept.usable ∙ is
since a b d faults.Memory kept none is = is

module _ {K L : Type 0} (site_state : K → SiteState) (crash_states : K → CrashStates L) where
  pub nothing : {T : Type 0} (a : K) (x : T) → Looks site_state crash_states a a (Ok x)
  nothing a x = record {
    looked = record { site = λ honest. refl; honest = refl; usable = refl; reads = omega arith; writes = refl; pins = λ none. none };
    no_new_crash_state = λ honest. no_new_crash_state (crash_states a);
    fault = tt;
    counts = refl;
  }

  -- what another value leaves
  pub as_value : {T U : Type 0} (a b : K) (x : T) (y : U) → Looks site_state crash_states a b (Ok x) → Looks site_state crash_states a b (Ok y)
  as_value a b x y is = record { looked = is.looked; no_new_crash_state = is.no_new_crash_state; fault = tt; counts = is.counts }

  pub as_fault : {T U : Type 0} (a b : K) (e : SiteFault) → Looks {T = T} site_state crash_states a b (Err e) → Looks {T = U} site_state crash_states a b (Err e)
  as_fault a b e is = record { looked = is.looked; no_new_crash_state = is.no_new_crash_state; fault = is.fault; counts = tt }

  -- memory may be lacking behind it
  pub then_memory : {T U : Type 0} (a b : K) (x : T) (e : SiteFault) → e ≡ faults.Memory → Looks site_state crash_states a b (Ok x) → Looks {T = U} site_state crash_states a b (Err e)
  then_memory a b x e same is = record { looked = is.looked; no_new_crash_state = is.no_new_crash_state; fault = subst (λ (f : SiteFault). IsReadFault true (site_state a) (site_state b) f) (sym same) refl; counts = tt }

  later_fault : {T : Type 0} (a b c : SiteState) (r : Result T SiteFault) → HasLooked a b → b.failed_reads ≡ a.failed_reads → IfErr r (IsReadFault true b c) → IfErr r (IsReadFault true a c)
  later_fault a b c (Ok x) kept none is = tt
  later_fault a b c (Err e) kept none is = since a b c e kept none is

  later_count : {T : Type 0} (a b c : ℕ) (r : Result T SiteFault) → b ≡ a → OnOk r (c ≡ b) → OnOk r (c ≡ a)
  later_count a b c (Ok x) none is = is ∙ none
  later_count a b c (Err e) none is = tt

  pub then : {T U : Type 0} (a b c : K) (x : T) (r : Result U SiteFault) → Looks site_state crash_states a b (Ok x) → Looks site_state crash_states b c r → Looks site_state crash_states a c r
  then a b c x r first second = record {
    looked = looked_then (site_state a) (site_state b) (site_state c) first.looked second.looked;
    no_new_crash_state = λ honest. adds_none_again (crash_states a) (crash_states b) (crash_states c) (first.no_new_crash_state honest) (second.no_new_crash_state (subst IsTrue (sym first.looked.honest) honest));
    fault = later_fault (site_state a) (site_state b) (site_state c) r first.looked first.counts second.fault;
    counts = later_count (site_state a).failed_reads (site_state b).failed_reads (site_state c).failed_reads r first.counts second.counts;
  }
