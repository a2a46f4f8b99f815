-- From the request on, what a session draws is the text of the site which the request found, or which its post found at its place in the group.
use Rattle.std.proofs.Common.{◌≡◌, ◌⊎◌, ℕ, Bool, true, false, List, [], ◌∷◌, ◌++◌, ◌==◌, nat_le, refl, sym, ap, ◌∙◌, inl, inr, eqb-true, if◌then◌else◌}
use Rattle.std.specs.Prelude.{take, Option, Some, None}
use Rattle.std.proofs.lemmas.Bool.{cases_Bool}
use Rattle.host_types.specs.Site.{Site, item_at}
use Rattle.host_types.specs.Visible.{visible}
use Rattle.host_types.specs.declared.change.Change.{Change}
use Rattle.request_reader.specs.Request.{Request}
use Rattle.request_reader.specs.Verdict.{Verdict, Open, Early as EndedEarly, Whole, Bad, verdict}
use Rattle.site_replies.specs.Reply.{WholeAnswer, reply}
use Rattle.group_world.specs.World.{World, Phase, Heard, Waits, Reply, Early, phase_in, phase_of, count_waiting}
use Rattle.site_replies.specs.Forms.{is_form_in}
use Rattle.group_world.specs.Step.{StepResult, waits_or, settles, understood, listens, ends, most_waiting, settled, at_hearing, answer, failed_answer, without_form, without_forms, all_of, flushed_by}
use Rattle.group_world.specs.declared.event.Event.{Event}
use Rattle.group_world.specs.declared.event.Event.TheVariants.{Join, Bytes, End, Draw, Leave, Admin, Flush}
use Rattle.group_world.specs.declared.event.Outcome.{Outcome}
use Rattle.group_world.specs.declared.event.Outcome.TheVariants.{Ready}
use Rattle.group_world.specs.Run.{StepBy}
use Rattle.group_world.specs.Continuing.{text_by, text_heard, text_found, is_flush, IsTakenBy, IsOfItsPlace, ContinuesWhatWasFound, ContinuesFromItsPlace}
use Rattle.group_world.proofs.Groups.{stays_taken, finds_its_place}
use Rattle.group_world.proofs.Phases.{own_phase}
use Rattle.group_world.proofs.Continuing.{Has, faulty_stays, split_stays, no_split, continues}

-- ---- a request that is answered at once

waits_text : (request : Request) (now : ℕ) (a : WholeAnswer) (post : Option Change) → Ready ≡ (waits_or request now a post).outcome → (waits_or request now a post).phase ≡ Reply a.bytes
waits_text request now a None is = refl
waits_text request now a (Some post) is = absurd (cc is)

settles_text : (grouped : Bool) (request : Request) (now : ℕ) (a : WholeAnswer) → Ready ≡ (settles grouped request now a).outcome → (settles grouped request now a).phase ≡ Reply a.bytes
settles_text true request now a is = waits_text request now a a.post is
settles_text false request now a is = refl

-- what was found is the reply that the session is to draw
understood_text : (grouped : Bool) (site : Site) (now : ℕ) (stream text : List ℕ) (v : Verdict) → text_by site now v ≡ Some text → Ready ≡ (understood grouped site now stream v).outcome → (understood grouped site now stream v).phase ≡ Reply text
understood_text grouped site now stream text Open is ready = absurd (cc is)
understood_text grouped site now stream text EndedEarly is ready = absurd (cc is)
understood_text grouped site now stream text (Whole request) is ready = settles_text grouped request now (reply site request now) ready ∙ cc is
understood_text grouped site now stream text (Bad cause) is ready = cc is

-- of a session that has heard its request
settled_text : (w : World) (id now : ℕ) (r : StepResult) (next q : Phase) (text : List ℕ) → phase_of w id ≡ Some q → r.phase ≡ next → (Ready ≡ r.outcome → r.phase ≡ Reply text) → Ready ≡ (settled w id now r next).outcome → Has (settled w id now r next).world id (Reply text)
settled_text w id now r (Heard stream) q text at same gives is = own_phase w.sessions id r.phase q at ∙ ap (λ (p : Phase). Some p) (gives is)
settled_text w id now r (Reply rest) q text at same gives is = own_phase w.sessions id r.phase q at ∙ ap (λ (p : Phase). Some p) (gives is)
settled_text w id now r Early q text at same gives is = own_phase w.sessions id r.phase q at ∙ ap (λ (p : Phase). Some p) (gives is)
settled_text w id now r (Waits request since) q text at same gives is =
    elim (cases_Bool (nat_le most_waiting (count_waiting w.sessions))) [
      | inl full ↦ (let no = rw full at is in absurd (cc no))
      | inr room ↦ (let ready : Ready ≡ r.outcome = rw room at is in let no : Waits request since ≡ Reply text = sym same ∙ gives ready in absurd (cc no))
    ]

heard_text : (w : World) (id now : ℕ) (text : List ℕ) (says : List ℕ → Verdict) (f : Phase → StepResult) (p : Option Phase) → phase_of w id ≡ p
    → ((stream : List ℕ) → text_by w.site now (says stream) ≡ Some text → Ready ≡ (f (Heard stream)).outcome → (f (Heard stream)).phase ≡ Reply text)
    → text_heard w.site now says p ≡ Some text → Ready ≡ (at_hearing w id now f p).outcome → Has (at_hearing w id now f p).world id (Reply text)
heard_text w id now text says f (Some (Heard stream)) at gives is ready = settled_text w id now (f (Heard stream)) (f (Heard stream)).phase (Heard stream) text at refl (gives stream is) ready
heard_text w id now text says f (Some (Waits request since)) at gives is ready = absurd (cc is)
heard_text w id now text says f (Some (Reply rest)) at gives is ready = absurd (cc is)
heard_text w id now text says f (Some Early) at gives is ready = absurd (cc is)
heard_text w id now text says f None at gives is ready = absurd (cc is)

only_if : {A : Type 0} (b : Bool) (o : Option A) (x : A) → (if b then o else None) ≡ Some x → (b ≡ true) × (o ≡ Some x)
only_if true o x is = (refl, is)
only_if false o x is = absurd (cc is)

answer_text : (w : World) (e : Event) (id : ℕ) (text : List ℕ) → text_found w id e ≡ Some text → Ready ≡ (answer w e).outcome → Has (answer w e).world id (Reply text)
answer_text w (Bytes n piece now) id text is ready =
    let own = only_if (n == id) (text_heard w.site now (λ stream. verdict (stream ++ piece) false) (phase_of w id)) text is in
    let number : n ≡ id = eqb-true n id own.0 in
    ap (λ (k : ℕ). phase_of (at_hearing w k now (listens w.grouped w.site now piece) (phase_of w k)).world id) number
    ∙ heard_text w id now text (λ stream. verdict (stream ++ piece) false) (listens w.grouped w.site now piece) (phase_of w id) refl
    (λ stream has says. understood_text w.grouped w.site now (stream ++ piece) text (verdict (stream ++ piece) false) has says) own.1
    (ready ∙ ap (λ (k : ℕ). (at_hearing w k now (listens w.grouped w.site now piece) (phase_of w k)).outcome) number)
answer_text w (End n now) id text is ready =
    let own = only_if (n == id) (text_heard w.site now (λ stream. verdict stream true) (phase_of w id)) text is in
    let number : n ≡ id = eqb-true n id own.0 in
    ap (λ (k : ℕ). phase_of (at_hearing w k now (ends w.grouped w.site now) (phase_of w k)).world id) number
    ∙ heard_text w id now text (λ stream. verdict stream true) (ends w.grouped w.site now) (phase_of w id) refl
    (λ stream has says. understood_text w.grouped w.site now stream text (verdict stream true) has says) own.1
    (ready ∙ ap (λ (k : ℕ). (at_hearing w k now (ends w.grouped w.site now) (phase_of w k)).outcome) number)
answer_text w Join id text is ready = absurd (cc is)
answer_text w (Draw n room) id text is ready = absurd (cc is)
answer_text w (Leave n) id text is ready = absurd (cc is)
answer_text w (Admin change now) id text is ready = absurd (cc is)
answer_text w Flush id text is ready = absurd (cc is)

-- a hub that has failed answers no request
never_ready : (w : World) (e : Event) (id : ℕ) (text : List ℕ) → text_found w id e ≡ Some text → Ready ≡ (failed_answer w e).outcome → ⊥
never_ready w (Bytes n piece now) id text is ready = cc ready
never_ready w (End n now) id text is ready = cc ready
never_ready w Join id text is ready = cc is
never_ready w (Draw n room) id text is ready = cc is
never_ready w (Leave n) id text is ready = cc is
never_ready w (Admin change now) id text is ready = cc is
never_ready w Flush id text is ready = cc is

by_text : (b : Bool) (w : World) (e : Event) (id : ℕ) (text : List ℕ) → text_found w id e ≡ Some text → Ready ≡ (if b then failed_answer w e else answer w e).outcome → Has (if b then failed_answer w e else answer w e).world id (Reply text)
by_text true w e id text is ready = absurd (never_ready w e id text is ready)
by_text false w e id text is ready = answer_text w e id text is ready

-- a flush completes no request
found_calm : (w : World) (e : Event) (id : ℕ) (text : List ℕ) → text_found w id e ≡ Some text → is_flush e ≡ false
found_calm w Join id text is = refl
found_calm w (Bytes n piece now) id text is = refl
found_calm w (End n now) id text is = refl
found_calm w (Draw n room) id text is = refl
found_calm w (Leave n) id text is = refl
found_calm w (Admin change now) id text is = refl
found_calm w Flush id text is = absurd (cc is)

pub step_text : (b : Bool) (old mid : World) (e : Event) (id : ℕ) (text : List ℕ) → text_found old id e ≡ Some text → StepBy b old e Ready mid → Has mid id (Reply text)
step_text true old mid e id text is a = ap (λ (w : World). phase_of w id) a.1 ∙ by_text old.failed old e id text is a.0
step_text false old mid e id text is (inl a) = ap (λ (w : World). phase_of w id) a.1 ∙ by_text old.failed old e id text is a.0
step_text false old mid e id text is (inr (inl f)) = absurd f
step_text false old mid e id text is (inr (inr s)) = absurd (no_split old mid e Ready (found_calm old e id text is) s)

pub continues_found : ContinuesWhatWasFound
continues_found old mid e events outcomes worlds id text found stepped stays run = continues mid events outcomes worlds id text (step_text old.failed old mid e id text found stepped) stays run

-- ---- a post that has waited

-- what a session is that finds no form, or still waits
phase_without : (s : Site) (sessions : List (ℕ × Phase)) (id : ℕ) (p : Phase) → phase_in sessions id ≡ Some p → phase_in (without_forms s sessions) id ≡ Some (without_form s p)
phase_without s [] id p h = absurd (cc h)
phase_without s (x ∷ sessions) id p h =
    elim (cases_Bool (x.0 == id)) [
      | inl e ↦ (let here : Some x.1 ≡ Some p = sym (rw e refl) ∙ h in let is : x.1 ≡ p = cc here in rw e (ap (λ (q : Phase). Some (without_form s q)) is))
      | inr n ↦ (let there : phase_in sessions id ≡ Some p = sym (rw n refl) ∙ h in rw n (phase_without s sessions id p there))
    ]

abbrev HasItsPlace : World → List Bool → Request → ℕ → List ℕ → Type 0
HasItsPlace w choices request now text =
    ((is_form_in (item_at (visible w.site now) request.selector) ≡ false) × (text ≡ (reply w.site request now).bytes)) ⊎ ((n : ℕ) × (text ≡ (reply (flushed_by w (take n choices)).site request now).bytes))

place_by : (b : Bool) (w : World) (choices : List Bool) (id : ℕ) (request : Request) (now : ℕ) (text : List ℕ) → is_form_in (item_at (visible w.site now) request.selector) ≡ b → phase_of w id ≡ Some (Waits request now) → phase_in (flushed_by w choices).sessions id ≡ Some (Reply text) → HasItsPlace w choices request now text
place_by true w choices id request now text form waits has =
    let still : phase_in (without_forms w.site w.sessions) id ≡ Some (Waits request now) = phase_without w.site w.sessions id (Waits request now) waits ∙ rw form refl in
    inr (finds_its_place w.site choices (without_forms w.site w.sessions) id request now text still has)
place_by false w choices id request now text gone waits has =
    let bytes = (reply w.site request now).bytes in
    let answered : phase_in (without_forms w.site w.sessions) id ≡ Some (Reply bytes) = phase_without w.site w.sessions id (Waits request now) waits ∙ rw gone refl in
    let there : Some (Reply text) ≡ Some (Reply bytes) = sym has ∙ stays_taken w.site choices (without_forms w.site w.sessions) id bytes answered in
    inl (gone, cc there)

of_its_place : (old mid : World) (choices : List Bool) (id : ℕ) (request : Request) (now : ℕ) (text : List ℕ) → IsTakenBy old choices mid → phase_of old id ≡ Some (Waits request now) → phase_of mid id ≡ Some (Reply text) → IsOfItsPlace old mid request now text
of_its_place old mid choices id request now text taken waits has = of (place_by (is_form_in (item_at (visible old.site now) request.selector)) old choices id request now text refl waits (ap (λ (ss : List (ℕ × Phase)). phase_in ss id) (sym taken.1) ∙ has))
  where
    of : HasItsPlace old choices request now text → IsOfItsPlace old mid request now text
    of (inl gone) = inl gone
    of (inr place) = inr (choices, place.0, taken, place.1)

still_waits : (old mid : World) (id : ℕ) (request : Request) (now : ℕ) (text : List ℕ) → mid.sessions ≡ old.sessions → phase_of old id ≡ Some (Waits request now) → phase_of mid id ≡ Some (Reply text) → ⊥
still_waits old mid id request now text same waits has =
    let no : Some (Waits request now) ≡ Some (Reply text) = sym waits ∙ ap (λ (ss : List (ℕ × Phase)). phase_in ss id) (sym same) ∙ has in cc no

answered_place : (b : Bool) (old mid : World) (id : ℕ) (request : Request) (now : ℕ) (text : List ℕ) → mid ≡ (if b then failed_answer old Flush else answer old Flush).world → phase_of old id ≡ Some (Waits request now) → phase_of mid id ≡ Some (Reply text) → IsOfItsPlace old mid request now text
answered_place true old mid id request now text same waits has = absurd (still_waits old mid id request now text (ap (λ (w : World). w.sessions) same) waits has)
answered_place false old mid id request now text same waits has =
    of_its_place old mid (all_of old.sessions) id request now text (ap (λ (w : World). w.site) same, ap (λ (w : World). w.sessions) same) waits has

pub step_place : (b : Bool) (old mid : World) (o : Outcome) (id : ℕ) (request : Request) (now : ℕ) (text : List ℕ) → StepBy b old Flush o mid → phase_of old id ≡ Some (Waits request now) → phase_of mid id ≡ Some (Reply text) → IsOfItsPlace old mid request now text
step_place true old mid o id request now text is waits has = answered_place old.failed old mid id request now text is.1 waits has
step_place false old mid o id request now text (inl is) waits has = answered_place old.failed old mid id request now text is.1 waits has
step_place false old mid o id request now text (inr (inl is)) waits has = absurd (still_waits old mid id request now text (faulty_stays old mid Flush o is).1 waits has)
step_place false old mid o id request now text (inr (inr is)) waits has = of_its_place old mid is.1.0 id request now text (let taken = split_stays old mid is.1.0 o is.1.1 in (taken.0, taken.1)) waits has

pub continues_from_its_place : ContinuesFromItsPlace
continues_from_its_place old mid o events outcomes worlds id request now text waits step has stays run = (step_place old.failed old mid o id request now text step waits has, continues mid events outcomes worlds id text has stays run)
