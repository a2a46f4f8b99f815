-- What the clauses of one call of a hub make of it.
use Rattle.std.proofs.Common.{◌≡◌, ℕ, Bool, true, false, not, refl, sym, subst, ap, ◌∙◌, inl, if◌then◌else◌, arith}
use Rattle.std.specs.Prelude.{IsTrue}
use Rattle.std.proofs.lemmas.Bool.{not-false}
use Rattle.host_types.specs.AllChanges.{Changes}
use Rattle.host_types.specs.Site.{Site}
use Rattle.host_types.specs.SiteState.{SiteState}
use Rattle.host_types.specs.CrashStates.{CrashStates, AddsNone, may_crash_to, no_new_crash_state}
use Rattle.host_types.specs.declared.site_fault.SiteFault.{SiteFault}
use Rattle.group_world.specs.World.{World}
use Rattle.group_world.specs.Step.{Next, then_is, answer, failed_answer, step}
use Rattle.group_world.specs.Run.{IsAnswer}
use Rattle.group_world.specs.CrashStates.{stored_whole}
use Rattle.group_world.specs.declared.event.Event.{Event}
use Rattle.group_world.specs.declared.event.Event.TheVariants.{Join, Bytes, End, Draw, Leave, Admin, Flush}
use Rattle.group_world.specs.declared.event.Outcome.{Outcome}
use Rattle.group_world.specs.declared.event.Outcome.TheVariants.{Fault}
use Rattle.group_world.specs.declared.event.Outcome.TheVariants as outcomes
use Rattle.group_world.specs.declared.fault.HubFault.TheVariants as hub
use Rattle.group_world.proofs.FaultsKeep.{by_keeps, answer_so, nobody_there}
use Rattle.group_world.proofs.Leaving.{leaves_nothing, closed_stores, nothing}
use Rattle.group_hub.specs.Calls.{IsCause, StaysClosed, IsSteady, IsAcknowledged, Splits, CallOverKeeper}
use Rattle.group_hub.specs.Counting.{CountsEvent}
use Rattle.group_hub.specs.HeldPins.{MayGiveBack}
use Rattle.group_hub.proofs.Steps.{answered_by}

-- ---- what holds on any device

-- no answer of the protocol is `Failed` where nothing has failed
runs_by : (b : Bool) (w : World) (e : Event) → (if b then failed_answer w e else answer w e).outcome ≡ Fault hub.Failed → b ≡ true
runs_by true w e is = refl
runs_by false w e is = absurd (answer_so w e (sym is))

pub both : (a b : Bool) → a ≡ false → b ≡ true → a ≡ b → ⊥
both a b off on same = let no : false ≡ true = sym off ∙ same ∙ on in cc no

stays_closed : {S : Type 0} (site_state : S → SiteState) (k : S) (e : Event) → StaysClosed site_state k e k
stays_closed site_state k Join = refl
stays_closed site_state k (Bytes id piece now) = refl
stays_closed site_state k (End id now) = refl
stays_closed site_state k (Draw id room) = refl
stays_closed site_state k (Leave id) = record { same = refl; free = omega arith }
stays_closed site_state k (Admin change now) = refl
stays_closed site_state k Flush = refl

-- an answer of the protocol, by a keeper that stays
pub steady : {S : Type 0} (site_state : S → SiteState) (w : World) (k : S) (e : Event) (o : Outcome) (v : World) → IsAnswer w e o v → v.failed ≡ w.failed → v.grouped ≡ w.grouped → IsSteady site_state w k e o v k
steady site_state w k e o v is flag groups = record {
  closed = λ shut. (is, stays_closed site_state k e);
  shuts = λ off on. absurd (both w.failed v.failed off on (sym flag));
  failed = λ fails. flag ∙ runs_by w.failed w e (sym is.0 ∙ fails);
  next = λ fault fails. ap (λ (x : World). x.next) (is.1 ∙ by_keeps w.failed w e fault (sym fails ∙ is.0));
  sessions = λ fault fails whole. ap (λ (x : World). x.sessions) (is.1 ∙ by_keeps w.failed w e fault (sym fails ∙ is.0));
  unknown = λ fails. nobody_there w.failed w e (sym fails ∙ is.0);
  grouped = groups;
}

-- ---- what is acknowledged

-- what is acknowledged where an answer is no fault
pub acknowledged_by : {S L : Type 0} (crash_states : S → CrashStates L) (stands : L → Site → Type 0) (o : Outcome) (v : World) (l : S) → (v.failed ≡ false → (c : L) → may_crash_to (crash_states l) c → stands c v.site) → IsAcknowledged crash_states stands o v l
acknowledged_by crash_states stands (Fault fault) v l is = tt
acknowledged_by crash_states stands (outcomes.Joined n) v l is = is
acknowledged_by crash_states stands outcomes.More v l is = is
acknowledged_by crash_states stands outcomes.Ready v l is = is
acknowledged_by crash_states stands outcomes.Finished v l is = is
acknowledged_by crash_states stands outcomes.Waiting v l is = is
acknowledged_by crash_states stands (outcomes.Drawn bytes) v l is = is
acknowledged_by crash_states stands outcomes.Gone v l is = is
acknowledged_by crash_states stands outcomes.Done v l is = is
acknowledged_by crash_states stands (outcomes.Flushed answered left) v l is = is

-- Between two calls each crash state represents the site.
abbrev pub Represents : {S L : Type 0} → (S → SiteState) → (S → CrashStates L) → (L → Site → Type 0) → S → Type 0
Represents {L = L} site_state crash_states stands k = (c : L) → IsTrue (site_state k).honest → (site_state k).usable ≡ true → may_crash_to (crash_states k) c → stands c (site_state k).site

pub acknowledged_of : {S L : Type 0} (site_state : S → SiteState) (crash_states : S → CrashStates L) (stands : L → Site → Type 0) (o : Outcome) (v : World) (l : S) →
    Represents site_state crash_states stands l → IsTrue (site_state l).honest → v.site ≡ (site_state l).site → v.failed ≡ not (site_state l).usable → IsAcknowledged crash_states stands o v l
acknowledged_of site_state crash_states stands o v l represent honest site flag =
    acknowledged_by crash_states stands o v l (λ up c may. subst (stands c) (sym site) (represent c honest (not-false (site_state l).usable (sym flag ∙ up)) may))

-- what a crash leaves before a call of a usable hub
pub starts : {S L : Type 0} (site_state : S → SiteState) (crash_states : S → CrashStates L) (stands : L → Site → Type 0) (w : World) (k : S) → Represents site_state crash_states stands k → IsTrue (site_state k).honest → w.site ≡ (site_state k).site → w.failed ≡ not (site_state k).usable
    → w.failed ≡ false → (c : L) → may_crash_to (crash_states k) c → stands c w.site
starts site_state crash_states stands w k represent honest site flag off c may = subst (stands c) (sym site) (represent c honest (not-false (site_state k).usable (sym flag ∙ off)) may)

-- ---- calls that ask no keeper, or only read it

-- an answer that stores nothing
pub quiet : {S L : Type 0} (site_state : S → SiteState) (lacks : S → Changes → SiteFault → Type 0) (crash_states : S → CrashStates L) (stands : L → Site → Type 0) (w : World) (k : S) (e : Event) (o : Outcome) (v : World) →
    Represents site_state crash_states stands k → IsAnswer w e o v → stored_whole w e o ≡ nothing → IsCause site_state lacks w k e o k → CountsEvent w e o (site_state k) (site_state k)
    → w.site ≡ (site_state k).site → v.site ≡ (site_state k).site → v.failed ≡ not (site_state k).usable → w.failed ≡ not (site_state k).usable → v.grouped ≡ w.grouped → CallOverKeeper site_state lacks crash_states stands w k e o v k
quiet site_state lacks crash_states stands w k e o v represent answers stores cause counts was_site site flag was groups = record {
  step = λ honest. answered_by w.failed w e o v answers;
  cause = cause;
  counts = counts;
  honest = refl;
  site = site;
  flag = flag;
  steady = steady site_state w k e o v answers (flag ∙ sym was) groups;
  acknowledged = λ honest. acknowledged_of site_state crash_states stands o v k represent honest site flag;
  leaves = λ honest. (nothing, leaves_nothing stands (Splits site_state lacks k w e) w v e o k (crash_states k) (crash_states k) (inl answers) stores (no_new_crash_state (crash_states k)) (starts site_state crash_states stands w k represent honest was_site was));
}

-- a hub that has failed says so
pub shut_answer : (w : World) (e : Event) → w.failed ≡ true → failed_answer w e ≡ then_is (Fault hub.Failed) w → IsAnswer w e (Fault hub.Failed) w
shut_answer w e shut is =
    let steps : step w e ≡ then_is (Fault hub.Failed) w = ap (λ (b : Bool). if b then failed_answer w e else answer w e) shut ∙ is in
    (ap (λ (n : Next). n.outcome) (sym steps), ap (λ (n : Next). n.world) (sym steps))

pub shut_call : {S L : Type 0} (site_state : S → SiteState) (lacks : S → Changes → SiteFault → Type 0) (crash_states : S → CrashStates L) (stands : L → Site → Type 0) (w : World) (k : S) (e : Event) →
    Represents site_state crash_states stands k → w.failed ≡ true → failed_answer w e ≡ then_is (Fault hub.Failed) w → IsCause site_state lacks w k e (Fault hub.Failed) k → CountsEvent w e (Fault hub.Failed) (site_state k) (site_state k)
    → w.site ≡ (site_state k).site → w.failed ≡ not (site_state k).usable → CallOverKeeper site_state lacks crash_states stands w k e (Fault hub.Failed) w k
shut_call site_state lacks crash_states stands w k e represent shut says cause counts site was =
    quiet site_state lacks crash_states stands w k e (Fault hub.Failed) w represent (shut_answer w e shut says) (closed_stores w e (Fault hub.Failed) shut) cause counts site site was was refl

-- a session that leaves
pub left_call : {S L : Type 0} (site_state : S → SiteState) (lacks : S → Changes → SiteFault → Type 0) (crash_states : S → CrashStates L) (stands : L → Site → Type 0) (w : World) (k : S) (id : ℕ) (v : World) (l : S) →
    Represents site_state crash_states stands k → Represents site_state crash_states stands l → IsAnswer w (Leave id) outcomes.Gone v → stored_whole w (Leave id) outcomes.Gone ≡ nothing → MayGiveBack (site_state k) (site_state l) → (IsTrue (site_state k).honest → AddsNone (crash_states k) (crash_states l))
    → w.site ≡ (site_state k).site → v.site ≡ (site_state l).site → v.failed ≡ not (site_state l).usable → w.failed ≡ not (site_state k).usable → v.grouped ≡ w.grouped → CallOverKeeper site_state lacks crash_states stands w k (Leave id) outcomes.Gone v l
left_call site_state lacks crash_states stands w k id v l old_represent represent answers stores gives only was_site site flag was groups =
    let honest_is : (site_state l).honest ≡ (site_state k).honest = ap (λ (h : SiteState). h.honest) gives.same in
    let usable_is : (site_state l).usable ≡ (site_state k).usable = ap (λ (h : SiteState). h.usable) gives.same in
    let flags : v.failed ≡ w.failed = flag ∙ ap not usable_is ∙ sym was in
    record {
      step = λ honest. answered_by w.failed w (Leave id) outcomes.Gone v answers;
      cause = (answers.0, gives);
      counts = record { reads = ap (λ (h : SiteState). h.failed_reads) gives.same; writes = ap (λ (h : SiteState). h.failed_writes) gives.same };
      honest = honest_is;
      site = site;
      flag = flag;
      steady = record {
        closed = λ shut. (answers, gives);
        shuts = λ off on. absurd (both w.failed v.failed off on (sym flags));
        failed = λ fails. absurd (cc fails);
        next = λ fault fails. absurd (cc fails);
        sessions = λ fault fails whole. absurd (cc fails);
        unknown = λ fails. absurd (cc fails);
        grouped = groups;
      };
      acknowledged = λ honest. acknowledged_of site_state crash_states stands outcomes.Gone v l represent (subst IsTrue (sym honest_is) honest) site flag;
      leaves = λ honest. (nothing, leaves_nothing stands (Splits site_state lacks k w (Leave id)) w v (Leave id) outcomes.Gone l (crash_states k) (crash_states l) (inl answers) stores (only honest) (starts site_state crash_states stands w k old_represent honest was_site was));
    }
