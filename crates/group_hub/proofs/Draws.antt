-- What the clauses of a draw make of its call.
use Rattle.std.proofs.Common.{◌≡◌, ◌⊎◌, ℕ, Bool, true, false, not, refl, sym, subst, ap, ◌∙◌, inl, inr, List}
use Rattle.std.specs.Prelude.{Result, Ok, Err, IfErr, OnOk, OnErr, IsTrue}
use Rattle.host_types.specs.AllChanges.{Changes}
use Rattle.host_types.specs.Site.{Site}
use Rattle.host_types.specs.SiteState.{SiteState}
use Rattle.host_types.specs.CrashStates.{CrashStates, AddsNone}
use Rattle.host_types.specs.declared.site_fault.SiteFault.{SiteFault}
use Rattle.group_world.specs.World.{World, Phase, one_waiting}
use Rattle.group_world.specs.Step.{draws}
use Rattle.group_hub.proofs.Waits.{draws_wait}
use Rattle.group_world.specs.Run.{Step, StepBy, IsAnswer, IsFaulty}
use Rattle.group_world.specs.Outcomes.{drawn_outcome, draw_outcome}
use Rattle.group_world.specs.declared.answer.Drawn.{Drawn}
use Rattle.group_world.specs.declared.answer.Drawn.TheVariants as drawn
use Rattle.group_world.specs.declared.event.Event.TheVariants.{Draw}
use Rattle.group_world.specs.declared.event.Outcome.{Outcome}
use Rattle.group_world.specs.declared.event.Outcome.TheVariants.{Fault}
use Rattle.group_world.specs.declared.fault.HubFault.{HubFault}
use Rattle.group_world.specs.declared.fault.HubFault.TheVariants as hub
use Rattle.group_world.proofs.Leaving.{leaves_nothing, no_commits, nothing}
use Rattle.group_hub.specs.Calls.{IfFault, IsSteady, Splits, CallOverKeeper}
use Rattle.group_hub.specs.Understood.{IsDrawFault}
use Rattle.group_hub.specs.Causes.{IsDrawCause}
use Rattle.group_hub.specs.Counting.{CountsCall}
use Rattle.group_hub.proofs.CountedCalls.{drawn_counts}
use Rattle.group_hub.proofs.CallsMade.{Represents, both, acknowledged_of, starts}

-- it was answered, or a fault came in its place
whole_step : (b : Bool) (w v : World) (id room : ℕ) (o : Outcome) → StepBy b w (Draw id room) o v → IsAnswer w (Draw id room) o v ⊎ IsFaulty w (Draw id room) o v
whole_step true w v id room o is = inl is
whole_step false w v id room o (inl is) = inl is
whole_step false w v id room o (inr (inl is)) = inr is
whole_step false w v id room o (inr (inr is)) = absurd is

-- a draw gives what it gives for its reason
draw_cause : (a b : SiteState) (phase : Phase) (fault : HubFault) → a.usable ≡ true → IsDrawFault a b phase fault → IsDrawCause a b fault
draw_cause a b phase hub.NotReady usable is = usable
draw_cause a b phase hub.Broken usable is = (usable, λ honest. (is honest).1)
draw_cause a b phase hub.Unknown usable is = absurd is
draw_cause a b phase hub.Crowded usable is = absurd is
draw_cause a b phase hub.Spent usable is = absurd is
draw_cause a b phase hub.Deep usable is = absurd is
draw_cause a b phase (hub.Refused r) usable is = absurd is
draw_cause a b phase (hub.Full need free) usable is = absurd is
draw_cause a b phase hub.Failed usable is = absurd is
draw_cause a b phase hub.Memory usable is = absurd is

pub drawn_cause : (a b : SiteState) (phase : Phase) (result : Result Drawn HubFault) (out : List ℕ) → a.usable ≡ true → IfErr result (IsDrawFault a b phase) → IfFault (draw_outcome result out) (IsDrawCause a b)
drawn_cause a b phase (Ok (drawn.Bytes n)) out usable is = tt
drawn_cause a b phase (Ok drawn.Finished) out usable is = tt
drawn_cause a b phase (Err fault) out usable is = draw_cause a b phase fault usable is

never_drawn_fault : (d : Drawn) (out : List ℕ) (fault : HubFault) → drawn_outcome d out ≡ Fault fault → ⊥
never_drawn_fault (drawn.Bytes n) out fault is = cc is
never_drawn_fault drawn.Finished out fault is = cc is

pub drawn_steady : {S : Type 0} (site_state : S → SiteState) (w : World) (k : S) (id room : ℕ) (v : World) (l : S) (phase : Phase) (result : Result Drawn HubFault) (out : List ℕ) →
    w.failed ≡ false → v.failed ≡ w.failed → v.next ≡ w.next → v.grouped ≡ w.grouped → OnErr result (v.sessions ≡ w.sessions) → IfErr result (IsDrawFault (site_state k) (site_state l) phase)
    → IsSteady site_state w k (Draw id room) (draw_outcome result out) v l
drawn_steady site_state w k id room v l phase (Ok d) out off flags next groups all_sessions is = record {
  closed = λ shut. absurd (both w.failed w.failed off shut refl);
  shuts = λ no on. absurd (both w.failed v.failed no on (sym flags));
  failed = λ fails. absurd (never_drawn_fault d out hub.Failed fails);
  next = λ fault fails. next;
  sessions = λ fault fails whole. absurd (never_drawn_fault d out fault fails);
  unknown = λ fails. absurd (never_drawn_fault d out hub.Unknown fails);
  grouped = groups;
}
drawn_steady site_state w k id room v l phase (Err fault) out off flags next groups all_sessions is = record {
  closed = λ shut. absurd (both w.failed w.failed off shut refl);
  shuts = λ no on. absurd (both w.failed v.failed no on (sym flags));
  failed = λ fails. (let same : fault ≡ hub.Failed = cc fails in let no : IsDrawFault (site_state k) (site_state l) phase hub.Failed = subst (IsDrawFault (site_state k) (site_state l) phase) same is in absurd no);
  next = λ any fails. next;
  sessions = λ any fails whole. all_sessions;
  unknown = λ fails. (let same : fault ≡ hub.Unknown = cc fails in let no : IsDrawFault (site_state k) (site_state l) phase hub.Unknown = subst (IsDrawFault (site_state k) (site_state l) phase) same is in absurd no);
  grouped = groups;
}

-- a session that draws
pub drawn_call : {S L : Type 0} (site_state : S → SiteState) (lacks : S → Changes → SiteFault → Type 0) (crash_states : S → CrashStates L) (stands : L → Site → Type 0) (w : World) (k : S) (id room : ℕ) (v : World) (l : S) (phase : Phase) (result : Result Drawn HubFault) (out : List ℕ) →
    Represents site_state crash_states stands k → Represents site_state crash_states stands l
    → (IsTrue (site_state k).honest → Step w (Draw id room) (draw_outcome result out) v) → (site_state k).usable ≡ true → (site_state l).honest ≡ (site_state k).honest → (site_state l).usable ≡ (site_state k).usable
    → v.next ≡ w.next → v.grouped ≡ w.grouped → OnErr result (v.sessions ≡ w.sessions) → IfErr result (IsDrawFault (site_state k) (site_state l) phase) → CountsCall result (site_state k) (site_state l) → (IsTrue (site_state k).honest → AddsNone (crash_states k) (crash_states l))
    → w.site ≡ (site_state k).site → v.site ≡ (site_state l).site → v.failed ≡ not (site_state l).usable → w.failed ≡ not (site_state k).usable → CallOverKeeper site_state lacks crash_states stands w k (Draw id room) (draw_outcome result out) v l
drawn_call site_state lacks crash_states stands w k id room v l phase result out old_represent represent step usable honest_is usable_is next groups all_sessions is counts only was_site site flag was = record {
  step = step;
  cause = drawn_cause (site_state k) (site_state l) phase result out usable is;
  counts = (let c = drawn_counts result out (site_state k) (site_state l) counts in record { reads = c.reads; writes = c.writes });
  honest = honest_is;
  site = site;
  flag = flag;
  steady = drawn_steady site_state w k id room v l phase result out (was ∙ ap not usable) (flag ∙ ap not usable_is ∙ sym was) next groups all_sessions is;
  acknowledged = λ honest. acknowledged_of site_state crash_states stands (draw_outcome result out) v l represent (subst IsTrue (sym honest_is) honest) site flag;
  leaves = λ honest. (
    nothing,
    leaves_nothing stands (Splits site_state lacks k w (Draw id room)) w v (Draw id room) (draw_outcome result out) l (crash_states k) (crash_states l) (whole_step w.failed w v id room (draw_outcome result out) (step honest))
        (no_commits w (Draw id room) (draw_outcome result out) refl) (only honest) (starts site_state crash_states stands w k old_represent honest was_site was),
  );
}

-- a draw lets nobody wait who didn't
pub drawn_waits : (room : ℕ) (p q : Phase) (result : Result Drawn HubFault) → OnOk result (q ≡ (draws room p).phase) → OnErr result (q ≡ p) → one_waiting q ≡ one_waiting p
drawn_waits room p q (Ok d) moved same = ap one_waiting moved ∙ draws_wait room p
drawn_waits room p q (Err fault) moved same = ap one_waiting same

-- a buffer that a draw leaves as it is, but for a read that failed
pub untouched_at : (a b : SiteState) (phase : Phase) (old new : List ℕ) (result : Result Drawn HubFault) → IfErr result (IsDrawFault a b phase) → IfErr result (λ e. e ≡ hub.NotReady → new ≡ old) → IfErr result (λ e. (e ≡ hub.Broken → ⊥) → new ≡ old)
untouched_at a b phase old new (Ok d) is stays = tt
untouched_at a b phase old new (Err hub.NotReady) is stays = λ other. stays refl
untouched_at a b phase old new (Err hub.Broken) is stays = λ other. absurd (other refl)
untouched_at a b phase old new (Err hub.Unknown) is stays = absurd is
untouched_at a b phase old new (Err hub.Crowded) is stays = absurd is
untouched_at a b phase old new (Err hub.Spent) is stays = absurd is
untouched_at a b phase old new (Err (hub.Refused refused)) is stays = absurd is
untouched_at a b phase old new (Err (hub.Full need free)) is stays = absurd is
untouched_at a b phase old new (Err hub.Failed) is stays = absurd is
untouched_at a b phase old new (Err hub.Memory) is stays = absurd is
untouched_at a b phase old new (Err hub.Deep) is stays = absurd is
