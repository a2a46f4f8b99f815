-- What the clauses of a session that hears something make of its call.
use Rattle.std.proofs.Common.{◌≡◌, ◌⊎◌, ℕ, Bool, true, false, not, List, [], ◌∷◌, ◌++◌, ◌&&◌, nat_le, refl, sym, subst, ap, ◌∙◌, inl, inr, arith, if◌then◌else◌}
use Rattle.std.specs.Prelude.{Option, Some, None, Result, Ok, Err, IfOk, IfErr, OnOk, OnErr, IsTrue}
use Rattle.std.proofs.lemmas.Bool.{not-true, cases_Bool}
use Rattle.host_types.specs.AllChanges.{Changes}
use Rattle.host_types.specs.Site.{Site}
use Rattle.host_types.specs.Pins.{Pinned}
use Rattle.host_types.specs.SiteState.{SiteState}
use Rattle.host_types.specs.CrashStates.{CrashStates, AddsOnly, AddsNone}
use Rattle.host_types.specs.declared.change.Change.{Change}
use Rattle.host_types.specs.declared.site_fault.SiteFault.{SiteFault}
use Rattle.request_reader.specs.Request.{Request}
use Rattle.group_world.specs.World as world
use Rattle.group_world.specs.World.{World, phase_in, one_waiting, count_waiting}
use Rattle.group_world.specs.Step.{StepResult, then_is, at_hearing, heard_by, moves, settled, most_waiting, at_moment, answer}
use Rattle.group_world.specs.Run.{Step, IsAnswer, IsFaulty, is_hearing, may_work, may_read, changes_in}
use Rattle.group_world.specs.CrashStates.{with_changes}
use Rattle.group_world.specs.Calls.{IsHeardCause}
use Rattle.group_world.specs.Continuing.{is_flush}
use Rattle.group_world.specs.Outcomes.{heard_outcome, bytes_outcome}
use Rattle.group_world.specs.declared.answer.InputStatus.{InputStatus}
use Rattle.group_world.specs.declared.answer.InputStatus.TheVariants as heard
use Rattle.group_world.specs.declared.event.Event.{Event}
use Rattle.group_world.specs.declared.event.Outcome.{Outcome}
use Rattle.group_world.specs.declared.event.Outcome.TheVariants.{Fault, Waiting}
use Rattle.group_world.specs.declared.fault.HubFault.{HubFault}
use Rattle.group_world.specs.declared.fault.HubFault.TheVariants as hub
use Rattle.group_world.proofs.Stored.{at_moment_makes}
use Rattle.group_world.proofs.Leaving.{leaves_nothing, leaves_changes, leaves_in_flight, fault_stores, nothing, all_in_one, all_in_flight}
use Rattle.group_hub.specs.Calls.{IfFault, IsCause, IsSteady, Splits, CallOverKeeper}
use Rattle.group_hub.specs.Counting.{CountsEvent}
use Rattle.group_hub.specs.Hears.{is_grouped, is_full, is_wait, status_of, MakesChanges, Hears}
use Rattle.group_hub.specs.Sessions.{phase_of, pin_of, is_waiting}
use Rattle.group_hub.specs.Understood.{IsPostFault}
use Rattle.group_hub.specs.Worlds.{world_at}
use Rattle.group_hub.specs.declared.posting.Posting.{Posting}
use Rattle.group_hub.specs.declared.session.Phase.{Phase}
use Rattle.group_hub.specs.declared.session.Phase.TheVariants as phases
use Rattle.group_hub.proofs.CallsMade.{Represents, both, acknowledged_of, starts}
use Rattle.group_hub.proofs.Steps.{answered_by, faulty_by, is_answer, is_open, same_parts, post_fault}
use Rattle.group_hub.specs.HeldPins.{one_if}
use Rattle.group_hub.proofs.Waits.{count_moved, TellsWaiting, comes_to_wait, heard_moves, coming, comes_by, stays_by, waited_stays, waits_well}
use Rattle.group_hub.proofs.WaitingSessions.{one_of}

-- ---- causes, on any device

cause_of : (a b : SiteState) (lacks : Changes → SiteFault → Type 0) (changes : Changes) (fault : HubFault) → a.usable ≡ true → IsPostFault lacks changes a b fault → IsHeardCause lacks changes a b fault
cause_of a b lacks changes hub.Memory usable is = usable
cause_of a b lacks changes hub.Crowded usable is = usable
cause_of a b lacks changes hub.Broken usable is = (usable, is.1)
cause_of a b lacks changes (hub.Full need free) usable is = (usable, is.1, is.2)
cause_of a b lacks changes hub.Spent usable is = (usable, is.1)
cause_of a b lacks changes hub.Deep usable is = (usable, is.1)
cause_of a b lacks changes hub.Failed usable is = λ honest. inr (is.cause honest)
cause_of a b lacks changes hub.Unknown usable is = absurd is
cause_of a b lacks changes (hub.Refused r) usable is = absurd is
cause_of a b lacks changes hub.NotReady usable is = absurd is

pub heard_cause : {T : Type 0} (a b : SiteState) (lacks : Changes → SiteFault → Type 0) (changes made : Changes) (result : Result T HubFault) → a.usable ≡ true → changes ≡ made → IfErr result (IsPostFault lacks made a b) → IfErr result (IsHeardCause lacks changes a b)
heard_cause a b lacks changes made (Ok _) usable same is = tt
heard_cause a b lacks changes made (Err fault) usable same is = subst (λ (l : Changes). IsHeardCause lacks l a b fault) (sym same) (cause_of a b lacks made fault usable is)

-- only `Failed` shuts a hub, and it does
shut_by : (a b : SiteState) (lacks : Changes → SiteFault → Type 0) (changes : Changes) (fault : HubFault) → a.usable ≡ true → b.usable ≡ false → IsPostFault lacks changes a b fault → fault ≡ hub.Failed
shut_by a b lacks changes hub.Memory on off is = absurd (both b.usable a.usable off on is.usable)
shut_by a b lacks changes hub.Crowded on off is = absurd (both b.usable a.usable off on is.usable)
shut_by a b lacks changes hub.Broken on off is = absurd (both b.usable a.usable off on is.0.usable)
shut_by a b lacks changes (hub.Full need free) on off is = absurd (both b.usable a.usable off on is.0.usable)
shut_by a b lacks changes hub.Spent on off is = absurd (both b.usable a.usable off on is.0.usable)
shut_by a b lacks changes hub.Deep on off is = absurd (both b.usable a.usable off on is.0.usable)
shut_by a b lacks changes hub.Failed on off is = refl
shut_by a b lacks changes hub.Unknown on off is = absurd is
shut_by a b lacks changes (hub.Refused r) on off is = absurd is
shut_by a b lacks changes hub.NotReady on off is = absurd is

-- every other fault leaves it open, and the site as it was
pub open_after : (a b : SiteState) (lacks : Changes → SiteFault → Type 0) (changes : Changes) (fault : HubFault) → (fault ≡ hub.Failed → ⊥) → IsPostFault lacks changes a b fault → b.usable ≡ a.usable
open_after a b lacks changes hub.Memory other is = is.usable
open_after a b lacks changes hub.Crowded other is = is.usable
open_after a b lacks changes hub.Broken other is = is.0.usable
open_after a b lacks changes (hub.Full need free) other is = is.0.usable
open_after a b lacks changes hub.Spent other is = is.0.usable
open_after a b lacks changes hub.Deep other is = is.0.usable
open_after a b lacks changes hub.Failed other is = absurd (other refl)
open_after a b lacks changes hub.Unknown other is = absurd is
open_after a b lacks changes (hub.Refused r) other is = absurd is
open_after a b lacks changes hub.NotReady other is = absurd is

never_fault : (h : InputStatus) (fault : HubFault) → heard_outcome h ≡ Fault fault → ⊥
never_fault heard.More fault is = cc is
never_fault heard.Ready fault is = cc is
never_fault heard.Finished fault is = cc is
never_fault heard.Waiting fault is = cc is

pub heard_steady : {S : Type 0} (site_state : S → SiteState) (lacks : Changes → SiteFault → Type 0) (w : World) (k : S) (e : Event) (v : World) (l : S) (changes : Changes) (result : Result InputStatus HubFault) →
    w.failed ≡ false → (site_state k).usable ≡ true → v.failed ≡ not (site_state l).usable → v.next ≡ w.next → v.grouped ≡ w.grouped → OnErr result (v.sessions ≡ w.sessions) → OnOk result ((site_state l).usable ≡ true) → IfErr result (IsPostFault lacks changes (site_state k) (site_state l))
    → IsSteady site_state w k e (bytes_outcome result) v l
heard_steady site_state lacks w k e v l changes (Ok h) off usable flag next groups all_sessions unchanged is = record {
  closed = λ shut. absurd (both w.failed w.failed off shut refl);
  shuts = λ no shut. (let end : true ≡ false = sym unchanged ∙ not-true (site_state l).usable (sym flag ∙ shut) in absurd (cc end));
  failed = λ fails. absurd (never_fault h hub.Failed fails);
  next = λ fault fails. next;
  sessions = λ fault fails whole. absurd (never_fault h fault fails);
  unknown = λ fails. absurd (never_fault h hub.Unknown fails);
  grouped = groups;
}
heard_steady site_state lacks w k e v l changes (Err fault) off usable flag next groups all_sessions unchanged is = record {
  closed = λ shut. absurd (both w.failed w.failed off shut refl);
  shuts = λ no shut. ap (λ (f : HubFault). Fault f) (shut_by (site_state k) (site_state l) lacks changes fault usable (not-true (site_state l).usable (sym flag ∙ shut)) is);
  failed = λ fails. (let same : fault ≡ hub.Failed = cc fails in flag ∙ ap not (subst (IsPostFault lacks changes (site_state k) (site_state l)) same is).shut);
  next = λ any fails. next;
  sessions = λ any fails whole. all_sessions;
  unknown = λ fails. (let same : fault ≡ hub.Unknown = cc fails in let no : IsPostFault lacks changes (site_state k) (site_state l) hub.Unknown = subst (IsPostFault lacks changes (site_state k) (site_state l)) same is in absurd no);
  grouped = groups;
}

-- ---- of one session

is_told : (h : InputStatus) → heard_outcome h ≡ Waiting → h ≡ heard.Waiting
is_told heard.More is = absurd (cc is)
is_told heard.Ready is = absurd (cc is)
is_told heard.Finished is = absurd (cc is)
is_told heard.Waiting is = refl

hears_none : (p : world.Phase) → is_hearing (Some p) ≡ true → one_waiting p ≡ 0
hears_none (world.Heard stream) is = refl
hears_none (world.Waits request since) is = absurd (cc is)
hears_none (world.Reply rest) is = absurd (cc is)
hears_none world.Early is = absurd (cc is)

second : (a b : Bool) → (a && b) ≡ true → b ≡ true
second true b is = is
second false b is = absurd (cc is)

none_second : (b : Bool) → (b && false) ≡ false
none_second true = refl
none_second false = refl

-- a fault leaves the site
unmade : (a b : SiteState) (lacks : Changes → SiteFault → Type 0) (changes : Changes) (fault : HubFault) → IsTrue a.honest → IsPostFault lacks changes a b fault → b.site ≡ a.site
unmade a b lacks changes hub.Memory honest is = is.site honest
unmade a b lacks changes hub.Crowded honest is = is.site honest
unmade a b lacks changes hub.Broken honest is = is.0.site honest
unmade a b lacks changes (hub.Full need free) honest is = is.0.site honest
unmade a b lacks changes hub.Spent honest is = is.0.site honest
unmade a b lacks changes hub.Deep honest is = is.0.site honest
unmade a b lacks changes hub.Failed honest is = is.site honest
unmade a b lacks changes hub.Unknown honest is = absurd is
unmade a b lacks changes (hub.Refused r) honest is = absurd is
unmade a b lacks changes hub.NotReady honest is = absurd is

-- a session that waits holds no pin
pub waiting_holds_none : {P : Type 0} (pinned : P → Pinned) (phase : Phase P) → heard.Waiting ≡ status_of phase → pin_of pinned phase ≡ None
waiting_holds_none pinned (phases.Hearing s) is = refl
waiting_holds_none pinned (phases.Waiting x) is = refl
waiting_holds_none pinned (phases.Replying r) is = refl
waiting_holds_none pinned (phases.Drawing d) is = absurd (cc is)
waiting_holds_none pinned phases.Drawn is = refl
waiting_holds_none pinned phases.Early is = refl

-- so one that goes behind the others holds none
pub goes_without_pin : {P : Type 0} (pinned : P → Pinned) (waited : Bool) (phase : Phase P) (result : Result InputStatus HubFault) (goes : Bool) → IfOk result (λ h. h ≡ status_of phase) → goes ≡ (not waited && is_wait result) → goes ≡ true → pin_of pinned phase ≡ None
goes_without_pin pinned waited phase (Ok heard.More) goes status tells is = (let no : false ≡ true = sym (none_second (not waited)) ∙ sym tells ∙ is in absurd (cc no))
goes_without_pin pinned waited phase (Ok heard.Ready) goes status tells is = (let no : false ≡ true = sym (none_second (not waited)) ∙ sym tells ∙ is in absurd (cc no))
goes_without_pin pinned waited phase (Ok heard.Finished) goes status tells is = (let no : false ≡ true = sym (none_second (not waited)) ∙ sym tells ∙ is in absurd (cc no))
goes_without_pin pinned waited phase (Ok heard.Waiting) goes status tells is = waiting_holds_none pinned phase status
goes_without_pin pinned waited phase (Err fault) goes status tells is = (let no : false ≡ true = sym (none_second (not waited)) ∙ sym tells ∙ is in absurd (cc no))

-- a fault of a result is that of its outcome
pub heard_fault : (result : Result InputStatus HubFault) (P : HubFault → Type 0) → IfErr result P → IfFault (bytes_outcome result) P
heard_fault (Ok heard.More) P is = tt
heard_fault (Ok heard.Ready) P is = tt
heard_fault (Ok heard.Finished) P is = tt
heard_fault (Ok heard.Waiting) P is = tt
heard_fault (Err fault) P is = is

crowds : (w : World) (id now : ℕ) (r : StepResult) (request : Request) (since : ℕ) → nat_le most_waiting (count_waiting w.sessions) ≡ true → settled w id now r (world.Waits request since) ≡ then_is (Fault hub.Crowded) w
crowds w id now r request since full = rw full refl

-- ---- one call

module _ {S L P : Type 0} (site_state : S → SiteState) (lacks : S → Changes → SiteFault → Type 0) (crash_states : S → CrashStates L) (stands : L → Site → Type 0) (pinned : P → Pinned) (k l : S) (next : ℕ) (g : Bool) (old new : List (ℕ × world.Phase)) (id now : ℕ) (e : Event) (f : world.Phase → StepResult) (posting : Posting) (before_it after : Phase P) (result : Result InputStatus HubFault) where
  abbrev p : world.Phase
  p = phase_of pinned (site_state k) before_it

  abbrev q : world.Phase
  q = phase_of pinned (site_state l) after

  abbrev w : World
  w = world_at (site_state k) next g old

  abbrev v : World
  v = world_at (site_state l) next g new

  abbrev made : Changes
  made = at_moment now (f p).post

  -- What is known of the session, of its event, and of what was done for it.
  pub record Facts : Type 0 where
    pub there : phase_in old id ≡ Some p
    pub asks : answer w e ≡ at_hearing w id now f (phase_in old id)
    pub changes : changes_in w e ≡ made
    pub tells : TellsWaiting f
    pub no_post : (stream : List ℕ) → one_waiting (f (world.Heard stream)).phase ≡ 1 → (f (world.Heard stream)).post ≡ None
    pub works : may_work w e ≡ is_hearing (phase_in old id)
    pub reads : may_read w e ≡ may_work w e
    pub other : is_flush e ≡ false
    pub usable : (site_state k).usable ≡ true
    pub grouped : is_grouped posting ≡ g
    pub full : is_full posting ≡ (g && nat_le 16 (count_waiting old))
    pub hears : Hears pinned (f p) posting before_it after (site_state k) (site_state l) result
    pub makes : MakesChanges site_state lacks crash_states stands made k l result
    pub represent : Represents site_state crash_states stands k
    pub represent_now : Represents site_state crash_states stands l

  -- ---- steps

  stays_answer : Facts → (h : InputStatus) → result ≡ Ok h → IsTrue (site_state k).honest → comes_to_wait p (f p).phase ≡ false → new ≡ world.moved_in old id q → IsAnswer w e (heard_outcome h) v
  stays_answer c h is honest stays seen =
      let moved : q ≡ (f p).phase = subst (λ (r : Result InputStatus HubFault). OnOk r (q ≡ (f p).phase)) is (c.hears.phase honest) in
      let outcome : heard_outcome h ≡ (f p).outcome = subst (λ (r : Result InputStatus HubFault). IfOk r (λ x. heard_outcome x ≡ (f p).outcome)) is (c.hears.gives honest) in
      let unchanged : (site_state l).usable ≡ true = subst (λ (r : Result InputStatus HubFault). OnOk r ((site_state l).usable ≡ true)) is c.makes.still_usable in
      let site : (site_state l).site ≡ with_changes (site_state k).site made = subst (λ (r : Result InputStatus HubFault). OnOk r ((site_state l).site ≡ with_changes (site_state k).site made)) is (c.makes.done honest) in
      is_answer w e (moves w id now (f p)) (heard_outcome h) v (is_open (site_state k) next g old c.usable) (c.asks ∙ ap (at_hearing w id now f) c.there ∙ heard_moves w id now (f p) p stays) outcome
      (same_parts (site_state l).site _ (site_state l).usable (site_state k).usable next g new _ (site ∙ sym (at_moment_makes (site_state k).site now (f p).post)) (unchanged ∙ sym c.usable) (seen ∙ ap (world.moved_in old id) moved))

  waits_answer : Facts → result ≡ Ok heard.Waiting → IsTrue (site_state k).honest → comes_to_wait p (f p).phase ≡ true → is_waiting before_it ≡ false → new ≡ world.others_in old id ++ (id, q) ∷ [] → IsAnswer w e Waiting v
  waits_answer c is honest comes fresh seen =
      let come = coming p (f p).phase comes in
      let moved : q ≡ (f p).phase = subst (λ (r : Result InputStatus HubFault). OnOk r (q ≡ (f p).phase)) is (c.hears.phase honest) in
      let outcome : Waiting ≡ (f p).outcome = subst (λ (r : Result InputStatus HubFault). IfOk r (λ x. heard_outcome x ≡ (f p).outcome)) is (c.hears.gives honest) in
      let unchanged : (site_state l).usable ≡ true = subst (λ (r : Result InputStatus HubFault). OnOk r ((site_state l).usable ≡ true)) is c.makes.still_usable in
      let site : (site_state l).site ≡ with_changes (site_state k).site made = subst (λ (r : Result InputStatus HubFault). OnOk r ((site_state l).site ≡ with_changes (site_state k).site made)) is (c.makes.done honest) in
      let let_wait = subst (λ (r : Result InputStatus HubFault). IfOk r (λ x. x ≡ heard.Waiting → is_waiting before_it ≡ false → (is_grouped posting ≡ true) × (is_full posting ≡ false))) is c.hears.waits refl fresh in
      let groups : g ≡ true = sym c.grouped ∙ let_wait.0 in
      let room : nat_le most_waiting (count_waiting old) ≡ false = sym (ap (λ (b : Bool). b && nat_le 16 (count_waiting old)) groups) ∙ sym c.full ∙ let_wait.1 in
      let none : (f p).post ≡ None = (let at : f p ≡ f (world.Heard come.stream) = ap f come.heard in ap (λ (r : StepResult). r.post) at ∙ c.no_post come.stream (ap (λ (r : StepResult). one_waiting r.phase) (sym at) ∙ ap one_waiting come.waits)) in
      let same : (site_state l).site ≡ (site_state k).site = site ∙ ap (λ (o : Option Change). with_changes (site_state k).site (at_moment now o)) none in
      let asked : answer w e ≡ then_is (f p).outcome (record w { sessions = world.others_in old id ++ (id, world.Waits come.request come.since) ∷ [] }) =
      c.asks ∙ ap (at_hearing w id now f) c.there ∙ ap (λ (x : world.Phase). heard_by w id now (f p) x) come.heard ∙ ap (settled w id now (f p)) come.waits ∙ waits_well w id now (f p) come.request come.since room in
      is_answer w e _ Waiting v (is_open (site_state k) next g old c.usable) asked outcome
      (same_parts (site_state l).site _ (site_state l).usable (site_state k).usable next g new _ same (unchanged ∙ sym c.usable) (seen ∙ ap (λ (x : world.Phase). world.others_in old id ++ (id, x) ∷ []) (moved ∙ come.waits)))

  -- ---- the call

  abbrev It : Outcome → Type 0
  It o = CallOverKeeper site_state lacks crash_states stands w k e o v l

  -- one that was answered
  answered_call : Facts → (h : InputStatus) → result ≡ Ok h → IsCause site_state lacks w k e (heard_outcome h) l → CountsEvent w e (heard_outcome h) (site_state k) (site_state l) → (IsTrue (site_state k).honest → IsAnswer w e (heard_outcome h) v) → It (heard_outcome h)
  answered_call c h is cause counts answers =
      let unchanged : (site_state l).usable ≡ true = subst (λ (r : Result InputStatus HubFault). OnOk r ((site_state l).usable ≡ true)) is c.makes.still_usable in
      let site = λ (honest : IsTrue (site_state k).honest). subst (λ (r : Result InputStatus HubFault). OnOk r ((site_state l).site ≡ with_changes (site_state k).site made)) is (c.makes.done honest) in
      let honest_now = λ (honest : IsTrue (site_state k).honest). subst IsTrue (sym c.makes.worked.honest) honest in
      record {
        step = λ honest. answered_by w.failed w e (heard_outcome h) v (answers honest);
        cause = cause;
        counts = counts;
        honest = c.makes.worked.honest;
        site = refl;
        flag = refl;
        steady = heard_steady site_state (lacks k) w k e v l made (Ok h) (ap not c.usable) c.usable refl refl refl tt unchanged tt;
        acknowledged = λ honest. acknowledged_of site_state crash_states stands (heard_outcome h) v l c.represent_now (honest_now honest) refl refl;
        leaves = λ honest. (
          all_in_one (changes_in w e),
          leaves_changes stands (Splits site_state lacks k w e) w v e (heard_outcome h) l (crash_states k) (crash_states l) (ap not c.usable) (answers honest)
              (subst (λ (m : Changes). AddsOnly (crash_states k) (crash_states l) (λ x. stands x (site_state k).site ⊎ stands x (with_changes (site_state k).site m))) (sym c.changes) (c.makes.at_crash honest))
              (site honest ∙ ap (with_changes (site_state k).site) (sym c.changes)) (λ x may. c.represent_now x (honest_now honest) unchanged may),
        );
      }

  -- one that leaves all as it was
  kept_call : Facts → (fault : HubFault) → result ≡ Err fault → (fault ≡ hub.Failed → ⊥) → IsCause site_state lacks w k e (Fault fault) l → CountsEvent w e (Fault fault) (site_state k) (site_state l) → new ≡ old
      → (IsTrue (site_state k).honest → IsAnswer w e (Fault fault) v ⊎ IsFaulty w e (Fault fault) v) → (IsTrue (site_state k).honest → Step w e (Fault fault) v) → It (Fault fault)
  kept_call c fault is other cause counts all_sessions steps step =
      let post : IsPostFault (lacks k) made (site_state k) (site_state l) fault = subst (λ (r : Result InputStatus HubFault). IfErr r (IsPostFault (lacks k) made (site_state k) (site_state l))) is c.makes.fault in
      let unchanged : (site_state l).usable ≡ true = open_after (site_state k) (site_state l) (lacks k) made fault other post ∙ c.usable in
      record {
        step = step;
        cause = cause;
        counts = counts;
        honest = c.makes.worked.honest;
        site = refl;
        flag = refl;
        steady = heard_steady site_state (lacks k) w k e v l made (Err fault) (ap not c.usable) c.usable refl refl refl all_sessions tt post;
        acknowledged = λ honest. tt;
        leaves = λ honest. (
          nothing,
          leaves_nothing stands (Splits site_state lacks k w e) w v e (Fault fault) l (crash_states k) (crash_states l) (steps honest) (fault_stores w e fault other)
              (subst (λ (r : Result InputStatus HubFault). IfErr r (λ x. (site_state l).usable ≡ true → AddsNone (crash_states k) (crash_states l))) is (c.makes.unchanged honest) unchanged) (starts site_state crash_states stands w k c.represent honest refl refl),
        );
      }

  works_so : Facts → is_hearing (Some p) ≡ true → may_work w e ≡ true
  works_so c hearing = c.works ∙ ap is_hearing c.there ∙ hearing

  post_of : Facts → (fault : HubFault) → result ≡ Err fault → IsPostFault (lacks k) made (site_state k) (site_state l) fault
  post_of c fault is = subst (λ (r : Result InputStatus HubFault). IfErr r (IsPostFault (lacks k) made (site_state k) (site_state l))) is c.makes.fault

  faulty : Facts → (fault : HubFault) → result ≡ Err fault → (fault ≡ hub.Crowded → ⊥) → new ≡ old → is_hearing (Some p) ≡ true → IsTrue (site_state k).honest → IsFaulty w e (Fault fault) v
  faulty c fault is room all_sessions hearing honest = post_fault (site_state k) (site_state l) (lacks k) next g old new e made fault c.other room honest c.usable (works_so c hearing) (c.reads ∙ works_so c hearing) c.changes all_sessions (post_of c fault is)

  in_place : Facts → (fault : HubFault) → result ≡ Err fault → (fault ≡ hub.Failed → ⊥) → (fault ≡ hub.Crowded → ⊥) → IsCause site_state lacks w k e (Fault fault) l → CountsEvent w e (Fault fault) (site_state k) (site_state l) → new ≡ old → is_hearing (Some p) ≡ true → It (Fault fault)
  in_place c fault is other room cause counts all_sessions hearing =
      kept_call c fault is other cause counts all_sessions (λ honest. inr (faulty c fault is room all_sessions hearing honest)) (λ honest. faulty_by w.failed w e (Fault fault) v (ap not c.usable) (faulty c fault is room all_sessions hearing honest))

  -- no more may wait
  crowded_answer : Facts → result ≡ Err hub.Crowded → new ≡ old → is_hearing (Some p) ≡ true → IsTrue (site_state k).honest → IsAnswer w e (Fault hub.Crowded) v
  crowded_answer c is all_sessions hearing honest =
      let told = subst (λ (r : Result InputStatus HubFault). IfErr r (λ x. x ≡ hub.Crowded → (is_full posting ≡ true) × (IsTrue (site_state k).honest → (f p).outcome ≡ Waiting))) is c.hears.crowded refl in
      let come = coming p (f p).phase (comes_by f p c.tells (hears_none p hearing) (told.1 honest)) in
      let full : (g && nat_le 16 (count_waiting old)) ≡ true = sym c.full ∙ told.0 in
      let asked : answer w e ≡ settled w id now (f p) (world.Waits come.request come.since) =
      c.asks ∙ ap (at_hearing w id now f) c.there ∙ ap (λ (x : world.Phase). heard_by w id now (f p) x) come.heard ∙ ap (settled w id now (f p)) come.waits in
      let post = post_of c hub.Crowded is in
      is_answer w e (then_is (Fault hub.Crowded) w) (Fault hub.Crowded) v (is_open (site_state k) next g old c.usable) (asked ∙ crowds w id now (f p) come.request come.since (second g (nat_le most_waiting (count_waiting old)) full)) refl
      (same_parts (site_state l).site (site_state k).site (site_state l).usable (site_state k).usable next g new old (post.site honest) post.usable all_sessions)

  failing_call : Facts → result ≡ Err hub.Failed → IsCause site_state lacks w k e (Fault hub.Failed) l → CountsEvent w e (Fault hub.Failed) (site_state k) (site_state l) → new ≡ old → is_hearing (Some p) ≡ true → It (Fault hub.Failed)
  failing_call c is cause counts all_sessions hearing =
      let is_faulty = faulty c hub.Failed is (λ x. cc x) all_sessions hearing in
      record {
        step = λ honest. faulty_by w.failed w e (Fault hub.Failed) v (ap not c.usable) (is_faulty honest);
        cause = cause;
        counts = counts;
        honest = c.makes.worked.honest;
        site = refl;
        flag = refl;
        steady = heard_steady site_state (lacks k) w k e v l made (Err hub.Failed) (ap not c.usable) c.usable refl refl refl all_sessions tt (post_of c hub.Failed is);
        acknowledged = λ honest. tt;
        leaves = λ honest. (
          all_in_flight (changes_in w e),
          leaves_in_flight stands (Splits site_state lacks k w e) w v e l (crash_states k) (crash_states l) (ap not c.usable) (is_faulty honest)
              (subst (λ (m : Changes). AddsOnly (crash_states k) (crash_states l) (λ x. stands x (site_state k).site ⊎ stands x (with_changes (site_state k).site m))) (sym c.changes) (c.makes.at_crash honest)),
        );
      }

  faulty_call : Facts → (fault : HubFault) → result ≡ Err fault → IsCause site_state lacks w k e (Fault fault) l → CountsEvent w e (Fault fault) (site_state k) (site_state l) → new ≡ old → is_hearing (Some p) ≡ true → It (Fault fault)
  faulty_call c hub.Failed is cause counts all_sessions hearing = failing_call c is cause counts all_sessions hearing
  faulty_call c hub.Crowded is cause counts all_sessions hearing =
      kept_call c hub.Crowded is (λ x. cc x) cause counts all_sessions (λ honest. inl (crowded_answer c is all_sessions hearing honest)) (λ honest. answered_by w.failed w e (Fault hub.Crowded) v (crowded_answer c is all_sessions hearing honest))
  faulty_call c hub.Unknown is cause counts all_sessions hearing = in_place c hub.Unknown is (λ x. cc x) (λ x. cc x) cause counts all_sessions hearing
  faulty_call c hub.Spent is cause counts all_sessions hearing = in_place c hub.Spent is (λ x. cc x) (λ x. cc x) cause counts all_sessions hearing
  faulty_call c hub.Deep is cause counts all_sessions hearing = in_place c hub.Deep is (λ x. cc x) (λ x. cc x) cause counts all_sessions hearing
  faulty_call c (hub.Refused r) is cause counts all_sessions hearing = in_place c (hub.Refused r) is (λ x. cc x) (λ x. cc x) cause counts all_sessions hearing
  faulty_call c (hub.Full need free) is cause counts all_sessions hearing = in_place c (hub.Full need free) is (λ x. cc x) (λ x. cc x) cause counts all_sessions hearing
  faulty_call c hub.Broken is cause counts all_sessions hearing = in_place c hub.Broken is (λ x. cc x) (λ x. cc x) cause counts all_sessions hearing
  faulty_call c hub.Memory is cause counts all_sessions hearing = in_place c hub.Memory is (λ x. cc x) (λ x. cc x) cause counts all_sessions hearing
  faulty_call c hub.NotReady is cause counts all_sessions hearing = in_place c hub.NotReady is (λ x. cc x) (λ x. cc x) cause counts all_sessions hearing

  -- ---- of each end of the call

  -- after a fault
  pub fault_call : Facts → (fault : HubFault) → result ≡ Err fault → IsCause site_state lacks w k e (Fault fault) l → CountsEvent w e (Fault fault) (site_state k) (site_state l) → new ≡ world.moved_in old id q → world.moved_in old id p ≡ old → It (Fault fault)
  fault_call c fault is cause counts seen stays =
      let same : q ≡ p = subst (λ (r : Result InputStatus HubFault). OnErr r (q ≡ p)) is c.hears.err in
      let hearing : is_hearing (Some p) ≡ true = subst (λ (r : Result InputStatus HubFault). OnErr r (is_hearing (Some p) ≡ true)) is c.hears.hearing in
      faulty_call c fault is cause counts (seen ∙ ap (world.moved_in old id) same ∙ stays) hearing

  -- where the session stays at its place
  pub place_call : Facts → (h : InputStatus) → result ≡ Ok h → ((h ≡ heard.Waiting → ⊥) ⊎ (is_waiting before_it ≡ true)) → IsCause site_state lacks w k e (heard_outcome h) l → CountsEvent w e (heard_outcome h) (site_state k) (site_state l) → new ≡ world.moved_in old id q → It (heard_outcome h)
  place_call c h is why cause counts seen = answered_call c h is cause counts (λ honest. stays_answer c h is honest (stays honest why) seen)
    where
      stays : IsTrue (site_state k).honest → (h ≡ heard.Waiting → ⊥) ⊎ (is_waiting before_it ≡ true) → comes_to_wait p (f p).phase ≡ false
      stays honest (inl other) = stays_by f p c.tells (λ waits. other (is_told h (subst (λ (r : Result InputStatus HubFault). IfOk r (λ x. heard_outcome x ≡ (f p).outcome)) is (c.hears.gives honest) ∙ waits)))
      stays honest (inr waited) = waited_stays p (f p).phase (one_of pinned (site_state k) before_it ∙ ap one_if waited)

  -- where it goes behind all others
  pub last_call : Facts → result ≡ Ok heard.Waiting → is_waiting before_it ≡ false → IsCause site_state lacks w k e Waiting l → CountsEvent w e Waiting (site_state k) (site_state l) → new ≡ world.others_in old id ++ (id, q) ∷ [] → It Waiting
  last_call c is fresh cause counts seen = answered_call c heard.Waiting is cause counts (λ honest. waits_answer c is honest (comes honest) fresh seen)
    where
      comes : IsTrue (site_state k).honest → comes_to_wait p (f p).phase ≡ true
      comes honest = comes_by f p c.tells (one_of pinned (site_state k) before_it ∙ ap one_if fresh) (sym (subst (λ (r : Result InputStatus HubFault). IfOk r (λ x. heard_outcome x ≡ (f p).outcome)) is (c.hears.gives honest)))

  -- ---- all of them together

  abbrev Places : Bool → Type 0
  Places goes = new ≡ (if goes then world.others_in old id ++ (id, q) ∷ [] else world.moved_in old id q)

  ok_call : Facts → (h : InputStatus) → result ≡ Ok h → (goes : Bool) → goes ≡ (not (is_waiting before_it) && is_wait (Ok h)) → IsCause site_state lacks w k e (heard_outcome h) l → CountsEvent w e (heard_outcome h) (site_state k) (site_state l) → Places goes → It (heard_outcome h)
  ok_call c heard.More is goes tells cause counts seen = place_call c heard.More is (inl (λ x. cc x)) cause counts (rw (tells ∙ none_second (not (is_waiting before_it))) at seen)
  ok_call c heard.Ready is goes tells cause counts seen = place_call c heard.Ready is (inl (λ x. cc x)) cause counts (rw (tells ∙ none_second (not (is_waiting before_it))) at seen)
  ok_call c heard.Finished is goes tells cause counts seen = place_call c heard.Finished is (inl (λ x. cc x)) cause counts (rw (tells ∙ none_second (not (is_waiting before_it))) at seen)
  ok_call c heard.Waiting is goes tells cause counts seen =
      elim (cases_Bool (is_waiting before_it)) [
        | inl waited ↦ (let stays : goes ≡ false = tells ∙ ap (λ (b : Bool). not b && true) waited in place_call c heard.Waiting is (inr waited) cause counts (rw stays at seen))
        | inr fresh ↦ (let moves : goes ≡ true = tells ∙ ap (λ (b : Bool). not b && true) fresh in last_call c is fresh cause counts (rw moves at seen))
      ]

  pub whole_call : Facts → (goes : Bool) → goes ≡ (not (is_waiting before_it) && is_wait result) → IsCause site_state lacks w k e (bytes_outcome result) l → CountsEvent w e (bytes_outcome result) (site_state k) (site_state l) → Places goes → world.moved_in old id p ≡ old → It (bytes_outcome result)
  whole_call c goes tells cause counts seen stays = by result refl
    where
      by : (r : Result InputStatus HubFault) → result ≡ r → It (bytes_outcome result)
      by (Ok h) is = subst (λ (r : Result InputStatus HubFault). It (bytes_outcome r)) (sym is)
          (ok_call c h is goes (tells ∙ ap (λ (r : Result InputStatus HubFault). not (is_waiting before_it) && is_wait r) is) (subst (λ (r : Result InputStatus HubFault). IsCause site_state lacks w k e (bytes_outcome r) l) is cause)
          (subst (λ (r : Result InputStatus HubFault). CountsEvent w e (bytes_outcome r) (site_state k) (site_state l)) is counts) seen)
      by (Err fault) is = subst (λ (r : Result InputStatus HubFault). It (bytes_outcome r)) (sym is)
          (let none : goes ≡ false = tells ∙ ap (λ (r : Result InputStatus HubFault). not (is_waiting before_it) && is_wait r) is ∙ none_second (not (is_waiting before_it)) in
          fault_call c fault is (subst (λ (r : Result InputStatus HubFault). IsCause site_state lacks w k e (bytes_outcome r) l) is cause)
          (subst (λ (r : Result InputStatus HubFault). CountsEvent w e (bytes_outcome r) (site_state k) (site_state l)) is counts) (rw none at seen) stays)

  -- ---- what a hub keeps of its own

  -- the site stays where no post is made
  pub site_stays : Facts → (f p).post ≡ None → IsTrue (site_state k).honest → (site_state l).site ≡ (site_state k).site
  site_stays c none honest = by result refl
    where
      by : (r : Result InputStatus HubFault) → result ≡ r → (site_state l).site ≡ (site_state k).site
      by (Ok h) is = subst (λ (r : Result InputStatus HubFault). OnOk r ((site_state l).site ≡ with_changes (site_state k).site made)) is (c.makes.done honest) ∙ ap (λ (o : Option Change). with_changes (site_state k).site (at_moment now o)) none
      by (Err fault) is = unmade (site_state k) (site_state l) (lacks k) made fault honest (post_of c fault is)

  -- nobody waits more where nobody comes to wait
  pub nobody_comes : Facts → (goes : Bool) → goes ≡ (not (is_waiting before_it) && is_wait result) → g ≡ false → one_waiting (f p).phase ≡ one_waiting p → IsTrue (site_state k).honest → Places goes → count_waiting old ≡ 0 → count_waiting new ≡ 0
  nobody_comes c goes tells plain same honest seen none =
      let stays : goes ≡ false = tells ∙ never_goes result refl in
      let one : one_waiting q ≡ one_waiting p = still result refl in
      ap count_waiting (rw stays at seen) ∙ omega (arith, none, one, count_moved old id p q c.there)
    where
      still : (r : Result InputStatus HubFault) → result ≡ r → one_waiting q ≡ one_waiting p
      still (Ok h) is = ap one_waiting (subst (λ (r : Result InputStatus HubFault). OnOk r (q ≡ (f p).phase)) is (c.hears.phase honest)) ∙ same
      still (Err fault) is = ap one_waiting (subst (λ (r : Result InputStatus HubFault). OnErr r (q ≡ p)) is c.hears.err)

      never_goes : (r : Result InputStatus HubFault) → result ≡ r → (not (is_waiting before_it) && is_wait result) ≡ false
      never_goes (Ok heard.More) is = ap (λ (r : Result InputStatus HubFault). not (is_waiting before_it) && is_wait r) is ∙ none_second (not (is_waiting before_it))
      never_goes (Ok heard.Ready) is = ap (λ (r : Result InputStatus HubFault). not (is_waiting before_it) && is_wait r) is ∙ none_second (not (is_waiting before_it))
      never_goes (Ok heard.Finished) is = ap (λ (r : Result InputStatus HubFault). not (is_waiting before_it) && is_wait r) is ∙ none_second (not (is_waiting before_it))
      never_goes (Err fault) is = ap (λ (r : Result InputStatus HubFault). not (is_waiting before_it) && is_wait r) is ∙ none_second (not (is_waiting before_it))
      never_goes (Ok heard.Waiting) is =
          elim (cases_Bool (is_waiting before_it)) [
            | inl waited ↦ ap (λ (b : Bool). not b && is_wait result) waited
            | inr fresh ↦ (let told = subst (λ (r : Result InputStatus HubFault). IfOk r (λ x. x ≡ heard.Waiting → is_waiting before_it ≡ false → (is_grouped posting ≡ true) × (is_full posting ≡ false))) is c.hears.waits refl fresh in
                let no : true ≡ false = sym told.0 ∙ c.grouped ∙ plain in absurd (cc no))
          ]
