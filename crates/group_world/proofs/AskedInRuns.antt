-- What a session draws was asked for before: over runs.
use Rattle.std.proofs.Common.{◌≡◌, ◌⊎◌, ⊎_elim, inl, inr, ℕ, Bool, true, false, not, List, [], ◌∷◌, ◌++◌, ◌==◌, take, drop, refl, sym, ap, subst, ◌∙◌, eqb-true, eq-eqb, append_assoc, if◌then◌else◌}
use Rattle.std.specs.Prelude.{Option, Some, None, ◌&&◌}
use Rattle.std.proofs.lemmas.Bool.{cases_Bool}
use Rattle.std.proofs.lemmas.List.{take-append-drop}
use Rattle.host_types.specs.Change.{apply}
use Rattle.request_reader.specs.Verdict.{Verdict, verdict}
use Rattle.group_world.specs.declared.fault.HubFault.TheVariants as hub
use Rattle.group_world.specs.World.{World, Phase, Heard, Waits, Reply, Early, phase_in, phase_of, started_as}
use Rattle.group_world.specs.Step.{listens, ends, draws, at_session, answer, failed_answer, all_of}
use Rattle.group_world.specs.declared.event.Event.{Event}
use Rattle.group_world.specs.declared.event.Event.TheVariants.{Join, Bytes, End, Draw, Leave, Admin, Flush}
use Rattle.group_world.specs.declared.event.Outcome.{Outcome}
use Rattle.group_world.specs.declared.event.Outcome.TheVariants.{Joined, More, Ready, Finished, Waiting, Drawn, Gone, Done, Flushed, Fault}
use Rattle.group_world.specs.Run.{Step, StepBy, IsAnswer, IsFaulty, IsSplit, RunBy}
use Rattle.group_world.specs.Continuing.{drawn_by, is_leave, stays_in, last_of, text_found, GivesText, WasAskedFor, DrawsWereAskedFor}
use Rattle.group_world.proofs.Continuing.{faulty_stays, split_stays, continues}
use Rattle.group_world.proofs.Places.{step_text, step_place}
use Rattle.group_world.proofs.SessionNumbers.{IsNumbered, step_numbered}
use Rattle.group_world.proofs.AskedFor.{Had, Asks, ComesFrom, HadOrWaited, own_hears, other_hears, own_draws, other_draws, leaves_from, joins_from, admin_from, understood_gives, flushed_before}

-- ---- one step

-- what a step leaves of a session with a reply: it had one, or the step gave it its text
abbrev Comes : World → ℕ → Event → Outcome → World → List ℕ → Type 0
Comes w id e o v given = Had w id e ⊎ ((text : List ℕ) × GivesText w id e o v text × (phase_of v id ≡ Some (Reply text)))

answer_from : (w : World) (e : Event) (id : ℕ) → (e ≡ Flush → ⊥) → IsNumbered w → ComesFrom w id e (answer w e)
answer_from w Join id other numbered = joins_from w id
answer_from w (Bytes n piece now) id other numbered =
    let says : List ℕ → Verdict = λ stream. verdict (stream ++ piece) false in
    elim (cases_Bool (n == id)) [
      | inl same ↦ subst (λ (k : ℕ). ComesFrom w k (Bytes n piece now) (answer w (Bytes n piece now))) (eqb-true n id same)
          (own_hears w n now (Bytes n piece now) says (listens w.grouped w.site now piece) (phase_of w n) refl numbered refl (rw (eq-eqb n n refl) refl)
          (λ stream given. understood_gives w.grouped w.site now (stream ++ piece) given (says stream)) (λ request since. refl) refl)
      | inr apart ↦ other_hears w n id now (Bytes n piece now) (listens w.grouped w.site now piece) (phase_of w n) apart refl
    ]
answer_from w (End n now) id other numbered =
    let says : List ℕ → Verdict = λ stream. verdict stream true in
    elim (cases_Bool (n == id)) [
      | inl same ↦ subst (λ (k : ℕ). ComesFrom w k (End n now) (answer w (End n now))) (eqb-true n id same)
          (own_hears w n now (End n now) says (ends w.grouped w.site now) (phase_of w n) refl numbered refl (rw (eq-eqb n n refl) refl)
          (λ stream given. understood_gives w.grouped w.site now stream given (says stream)) (λ request since. refl) refl)
      | inr apart ↦ other_hears w n id now (End n now) (ends w.grouped w.site now) (phase_of w n) apart refl
    ]
answer_from w (Draw n room) id other numbered =
    elim (cases_Bool (n == id)) [
      | inl same ↦ subst (λ (k : ℕ). ComesFrom w k (Draw n room) (answer w (Draw n room))) (eqb-true n id same) (own_draws w n room (phase_of w n) refl)
      | inr apart ↦ other_draws w n id room (phase_of w n) apart
    ]
answer_from w (Leave n) id other numbered = leaves_from w n id (phase_of w n) numbered refl
answer_from w (Admin change now) id other numbered = admin_from w id (Admin change now) (apply w.site change now) refl
answer_from w Flush id other numbered = absurd (other refl)

failed_from : (w : World) (e : Event) (id : ℕ) → IsNumbered w → ComesFrom w id e (failed_answer w e)
failed_from w (Leave n) id numbered = leaves_from w n id (phase_of w n) numbered refl
failed_from w Join id numbered = λ given has. inl (given, has, refl)
failed_from w (Bytes n piece now) id numbered = λ given has. inl (given, has, refl)
failed_from w (End n now) id numbered = λ given has. inl (given, has, refl)
failed_from w (Draw n room) id numbered = λ given has. inl (given, has, refl)
failed_from w (Admin change now) id numbered = λ given has. inl (given, has, refl)
failed_from w Flush id numbered = λ given has. inl (given, has, refl)

by_from : (b : Bool) (w : World) (e : Event) (id : ℕ) → (e ≡ Flush → ⊥) → IsNumbered w → ComesFrom w id e (if b then failed_answer w e else answer w e)
by_from true w e id other numbered = failed_from w e id numbered
by_from false w e id other numbered = answer_from w e id other numbered

-- no fault comes in place of the answer to a session that leaves
faulty_keeps_all : (w v : World) (e : Event) (o : Outcome) (id : ℕ) → IsFaulty w e o v → not (is_leave id e) ≡ true
faulty_keeps_all w v Join o id is = refl
faulty_keeps_all w v (Bytes n piece now) o id is = refl
faulty_keeps_all w v (End n now) o id is = refl
faulty_keeps_all w v (Draw n room) o id is = refl
faulty_keeps_all w v (Leave n) o id is = absurd (never w v n o is)
  where
    never : (w v : World) (n : ℕ) (o : Outcome) → IsFaulty w (Leave n) o v → ⊥
    never w v n (Fault hub.Failed) is = cc is.0
    never w v n (Fault hub.Unknown) is = cc is.0
    never w v n (Fault hub.Crowded) is = cc is.0
    never w v n (Fault hub.Spent) is = cc is.0
    never w v n (Fault hub.Deep) is = cc is.0
    never w v n (Fault (hub.Refused r)) is = cc is.0
    never w v n (Fault (hub.Full need free)) is = cc is.0
    never w v n (Fault hub.Broken) is = cc is.0
    never w v n (Fault hub.Memory) is = cc is.0
    never w v n (Fault hub.NotReady) is = cc is.0
    never w v n (Joined k) is = is
    never w v n More is = is
    never w v n Ready is = is
    never w v n Finished is = is
    never w v n Waiting is = is
    never w v n (Drawn bytes) is = is
    never w v n Gone is = is
    never w v n Done is = is
    never w v n (Flushed answered left) is = is
faulty_keeps_all w v (Admin change now) o id is = refl
faulty_keeps_all w v Flush o id is = refl

faulty_comes : (w v : World) (e : Event) (o : Outcome) (id : ℕ) (given : List ℕ) → IsFaulty w e o v → phase_of v id ≡ Some (Reply given) → Comes w id e o v given
faulty_comes w v e o id given is has = inl (given, ap (λ (ss : List (ℕ × Phase)). phase_in ss id) (sym (faulty_stays w v e o is).1) ∙ has, faulty_keeps_all w v e o id is)

-- a flush
flush_comes : (w v : World) (o : Outcome) (id : ℕ) (given : List ℕ) → StepBy w.failed w Flush o v → HadOrWaited w.sessions id given → phase_of v id ≡ Some (Reply given) → Comes w id Flush o v given
flush_comes w v o id given step (inl had) has = inl (given, had, refl)
flush_comes w v o id given step (inr (request, now, waited)) has = inr (given, inr (request, now, refl, waited, step_place w.failed w v o id request now given step waited has), has)

flush_had : (b : Bool) (w v : World) (o : Outcome) (id : ℕ) (given : List ℕ) → StepBy b w Flush o v → phase_of v id ≡ Some (Reply given) → HadOrWaited w.sessions id given
flush_had b w v o id given step has = by b step
  where
    was : (b : Bool) → v ≡ (if b then failed_answer w Flush else answer w Flush).world → HadOrWaited w.sessions id given
    was true same = inl (ap (λ (x : World). phase_of x id) (sym same) ∙ has)
    was false same = flushed_before w (all_of w.sessions) id given (ap (λ (x : World). phase_of x id) (sym same) ∙ has)

    by : (b : Bool) → StepBy b w Flush o v → HadOrWaited w.sessions id given
    by true is = was w.failed is.1
    by false (inl is) = was w.failed is.1
    by false (inr (inl is)) = inl (ap (λ (ss : List (ℕ × Phase)). phase_in ss id) (sym (faulty_stays w v Flush o is).1) ∙ has)
    by false (inr (inr is)) = flushed_before w is.1.0 id given (ap (λ (ss : List (ℕ × Phase)). phase_in ss id) (sym (split_stays w v is.1.0 o is.1.1).1) ∙ has)

-- any other event
other_comes : (b : Bool) (w v : World) (e : Event) (o : Outcome) (id : ℕ) (given : List ℕ) → (e ≡ Flush → ⊥) → (IsSplit w e o v → ⊥) → IsNumbered w → ((text : List ℕ) → text_found w id e ≡ Some text → o ≡ Ready → phase_of v id ≡ Some (Reply text)) → StepBy b w e o v
    → phase_of v id ≡ Some (Reply given) → Comes w id e o v given
other_comes b w v e o id given other whole numbered tells step has = by b step
  where
    came : Had w id e ⊎ Asks w id e o → Comes w id e o v given
    came (inl had) = inl had
    came (inr (text, found, ready)) = inr (text, inl (found, ready), tells text found ready)

    from : IsAnswer w e o v → Comes w id e o v given
    from is = came (⊎_elim (λ had. inl had) (λ asks. inr (asks.0, asks.1, is.0 ∙ asks.2)) (by_from w.failed w e id other numbered given (ap (λ (x : World). phase_of x id) (sym is.1) ∙ has)))

    by : (b : Bool) → StepBy b w e o v → Comes w id e o v given
    by true is = from is
    by false (inl is) = from is
    by false (inr (inl is)) = faulty_comes w v e o id given is has
    by false (inr (inr is)) = absurd (whole is)

tells_text : (w v : World) (e : Event) (o : Outcome) (id : ℕ) → StepBy w.failed w e o v → (text : List ℕ) → text_found w id e ≡ Some text → o ≡ Ready → phase_of v id ≡ Some (Reply text)
tells_text w v e o id step text found ready = step_text w.failed w v e id text found (subst (λ (x : Outcome). StepBy w.failed w e x v) ready step)

step_comes : (w v : World) (e : Event) (o : Outcome) (id : ℕ) (given : List ℕ) → IsNumbered w → Step w e o v → phase_of v id ≡ Some (Reply given) → Comes w id e o v given
step_comes w v Flush o id given numbered step has = flush_comes w v o id given step (flush_had w.failed w v o id given step has) has
step_comes w v Join o id given numbered step has = other_comes w.failed w v Join o id given (λ is. cc is) (λ is. is) numbered (tells_text w v Join o id step) step has
step_comes w v (Bytes n piece now) o id given numbered step has = other_comes w.failed w v (Bytes n piece now) o id given (λ is. cc is) (λ is. is) numbered (tells_text w v (Bytes n piece now) o id step) step has
step_comes w v (End n now) o id given numbered step has = other_comes w.failed w v (End n now) o id given (λ is. cc is) (λ is. is) numbered (tells_text w v (End n now) o id step) step has
step_comes w v (Draw n room) o id given numbered step has = other_comes w.failed w v (Draw n room) o id given (λ is. cc is) (λ is. is) numbered (tells_text w v (Draw n room) o id step) step has
step_comes w v (Leave n) o id given numbered step has = other_comes w.failed w v (Leave n) o id given (λ is. cc is) (λ is. is) numbered (tells_text w v (Leave n) o id step) step has
step_comes w v (Admin change now) o id given numbered step has = other_comes w.failed w v (Admin change now) o id given (λ is. cc is) (λ is. is) numbered (tells_text w v (Admin change now) o id step) step has

-- ---- in a run

-- one of these events gave a session its text, and it has stayed since
record Asked (w : World) (es : List Event) (os : List Outcome) (vs : List World) (id : ℕ) : Type 0 where
  before : List Event
  answers : List Outcome
  passed : List World
  event : Event
  answer : Outcome
  world : World
  since : List Event
  further : List Outcome
  later : List World
  parts : es ≡ before ++ event ∷ since
  answered : os ≡ answers ++ answer ∷ further
  through : vs ≡ passed ++ world ∷ later
  begins : RunBy w before answers passed
  text : List ℕ
  found : GivesText (last_of w passed) id event answer world text
  there : phase_of world id ≡ Some (Reply text)
  stays : stays_in id since ≡ true
  run : RunBy world since further later

-- or it had its reply before the first
abbrev HadFromTheStart : World → List Event → ℕ → Type 0
HadFromTheStart w es id = (had : List ℕ) × (phase_of w id ≡ Some (Reply had)) × (stays_in id es ≡ true)

both : (a b : Bool) → a ≡ true → b ≡ true → (a && b) ≡ true
both true b first second = second
both false b first second = absurd (cc first)

asked_first : (w v : World) (e : Event) (es : List Event) (o : Outcome) (os : List Outcome) (vs : List World) (id : ℕ) (given : List ℕ) → RunBy v es os vs → stays_in id es ≡ true → Comes w id e o v given → HadFromTheStart w (e ∷ es) id ⊎ Asked w (e ∷ es) (o ∷ os) (v ∷ vs) id
asked_first w v e es o os vs id given run stays (inl had) = inl (had.0, had.1, both (not (is_leave id e)) (stays_in id es) had.2 stays)
asked_first w v e es o os vs id given run stays (inr (text, found, there)) = inr (record {
  before = [];
  answers = [];
  passed = [];
  event = e;
  answer = o;
  world = v;
  since = es;
  further = os;
  later = vs;
  parts = refl;
  answered = refl;
  through = refl;
  begins = tt;
  text = text;
  found = found;
  there = there;
  stays = stays;
  run = run;
})

asked_later : (w v : World) (e : Event) (es : List Event) (o : Outcome) (os : List Outcome) (vs : List World) (id : ℕ) → Step w e o v → Asked v es os vs id → Asked w (e ∷ es) (o ∷ os) (v ∷ vs) id
asked_later w v e es o os vs id step later = record {
  before = e ∷ later.before;
  answers = o ∷ later.answers;
  passed = v ∷ later.passed;
  event = later.event;
  answer = later.answer;
  world = later.world;
  since = later.since;
  further = later.further;
  later = later.later;
  parts = ap (λ (x : List Event). e ∷ x) later.parts;
  answered = ap (λ (x : List Outcome). o ∷ x) later.answered;
  through = ap (λ (x : List World). v ∷ x) later.through;
  begins = (step, later.begins);
  text = later.text;
  found = later.found;
  there = later.there;
  stays = later.stays;
  run = later.run;
}

asked_in : (w : World) (es : List Event) (os : List Outcome) (vs : List World) (id : ℕ) (given : List ℕ) → IsNumbered w → RunBy w es os vs → phase_of (last_of w vs) id ≡ Some (Reply given) → HadFromTheStart w es id ⊎ Asked w es os vs id
asked_in w [] [] [] id given numbered run has = inl (given, has, refl)
asked_in w (e ∷ es) (o ∷ os) (v ∷ vs) id given numbered run has =
    ⊎_elim (λ had. asked_first w v e es o os vs id had.0 run.1 had.2 (step_comes w v e o id had.0 numbered run.0 had.1)) (λ later. inr (asked_later w v e es o os vs id run.0 later))
    (asked_in v es os vs id given (step_numbered w.failed w v e o run.0 numbered) run.1 has)
asked_in w [] [] (v ∷ vs) id given numbered run has = absurd run
asked_in w [] (o ∷ os) [] id given numbered run has = absurd run
asked_in w [] (o ∷ os) (v ∷ vs) id given numbered run has = absurd run
asked_in w (e ∷ es) [] [] id given numbered run has = absurd run
asked_in w (e ∷ es) [] (v ∷ vs) id given numbered run has = absurd run
asked_in w (e ∷ es) (o ∷ os) [] id given numbered run has = absurd run

-- ---- a draw

drawn_at : (w : World) (id room : ℕ) (bytes : List ℕ) (p : Option Phase) → Drawn bytes ≡ (at_session w id (draws room) p).outcome → (rest : List ℕ) × (p ≡ Some (Reply (bytes ++ rest)))
drawn_at w id room bytes None is = absurd (cc is)
drawn_at w id room bytes (Some (Heard stream)) is = absurd (cc is)
drawn_at w id room bytes (Some (Waits request since)) is = absurd (cc is)
drawn_at w id room bytes (Some Early) is = absurd (cc is)
drawn_at w id room bytes (Some (Reply [])) is = absurd (cc is)
drawn_at w id room bytes (Some (Reply (b ∷ left))) is =
    let given : bytes ≡ take room (b ∷ left) = cc is in
    (drop room (b ∷ left), ap (λ (x : List ℕ). Some (Reply x)) (sym (ap (λ (x : List ℕ). x ++ drop room (b ∷ left)) given ∙ take-append-drop room (b ∷ left))))

drawn_by_answer : (b : Bool) (w : World) (id room : ℕ) (bytes : List ℕ) → Drawn bytes ≡ (if b then failed_answer w (Draw id room) else answer w (Draw id room)).outcome → (rest : List ℕ) × (phase_of w id ≡ Some (Reply (bytes ++ rest)))
drawn_by_answer true w id room bytes is = absurd (cc is)
drawn_by_answer false w id room bytes is = drawn_at w id room bytes (phase_of w id) is

drawn_from : (b : Bool) (w v : World) (id room : ℕ) (bytes : List ℕ) → StepBy b w (Draw id room) (Drawn bytes) v → (rest : List ℕ) × (phase_of w id ≡ Some (Reply (bytes ++ rest)))
drawn_from true w v id room bytes is = drawn_by_answer w.failed w id room bytes is.0
drawn_from false w v id room bytes (inl is) = drawn_by_answer w.failed w id room bytes is.0
drawn_from false w v id room bytes (inr (inl is)) = absurd is
drawn_from false w v id room bytes (inr (inr is)) = absurd is

last_through : (w : World) (passed : List World) (v : World) (later : List World) → last_of w (passed ++ v ∷ later) ≡ last_of v later
last_through w [] v later = refl
last_through w (x ∷ passed) v later = last_through x passed v later

asked_for : (first : World) (events : List Event) (outcomes : List Outcome) (worlds : List World) (id : ℕ) (bytes rest : List ℕ) → phase_of (last_of first worlds) id ≡ Some (Reply (bytes ++ rest)) → Asked first events outcomes worlds id → WasAskedFor first events outcomes worlds id bytes
asked_for first events outcomes worlds id bytes rest has a =
    let goes = continues a.world a.since a.further a.later id a.text a.there a.stays a.run in
    let at_end : last_of first worlds ≡ last_of a.world a.later = ap (last_of first) a.through ∙ last_through first a.passed a.world a.later in
    let there : Some (Reply goes.0) ≡ Some (Reply (bytes ++ rest)) = sym goes.1 ∙ ap (λ (w : World). phase_of w id) (sym at_end) ∙ has in
    let same : goes.0 ≡ bytes ++ rest = cc there in
    record {
      before = a.before;
      answers = a.answers;
      passed = a.passed;
      event = a.event;
      answer = a.answer;
      world = a.world;
      since = a.since;
      further = a.further;
      later = a.later;
      parts = a.parts;
      answered = a.answered;
      through = a.through;
      begins = a.begins;
      text = a.text;
      found = a.found;
      stays = a.stays;
      rest = rest;
      continues = goes.2 ∙ ap (λ (x : List ℕ). drawn_by id a.since a.further ++ x) same ∙ sym (append_assoc (drawn_by id a.since a.further) bytes rest);
    }

pub draws_were_asked_for : DrawsWereAskedFor
draws_were_asked_for grouped site first new events outcomes worlds id room bytes run step =
    let w = started_as grouped site first in
    let m = last_of w worlds in
    let drawn = drawn_from m.failed m new id room bytes step in
    ⊎_elim (λ had. (let no : None ≡ Some (Reply had.0) = had.1 in absurd (cc no))) (λ asked. asked_for w events outcomes worlds id bytes drawn.0 drawn.1 asked) (asked_in w events outcomes worlds id (bytes ++ drawn.0) tt run drawn.1)
