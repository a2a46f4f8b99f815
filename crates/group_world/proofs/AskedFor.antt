-- What a session draws was asked for before.
use Rattle.std.proofs.Common.{◌≡◌, ◌⊎◌, inl, inr, ℕ, Bool, true, false, not, List, [], ◌∷◌, ◌++◌, ◌==◌, length, nat_le, ◌-◌, ◌^◌, refl, sym, ap, ◌∙◌, eqb-true, eq-eqb}
use Rattle.std.specs.Prelude.{Option, Some, None, Result, Ok, Err}
use Rattle.std.proofs.lemmas.Bool.{cases_Bool}
use Rattle.host_types.specs.Site.{Site}
use Rattle.host_types.specs.declared.change.Change.{Change}
use Rattle.common_types.specs.declared.refused.Refused.{Refused}
use Rattle.request_reader.specs.Request.{Request}
use Rattle.request_reader.specs.Verdict.{Verdict, Open, Early as EndedEarly, Whole, Bad}
use Rattle.site_replies.specs.Reply.{reply, bad_reply}
use Rattle.group_world.specs.World.{World, Phase, Heard, Waits, Reply, Early, phase_in, phase_of, others_in, count_waiting}
use Rattle.group_world.specs.Step.{StepResult, Next, waits_or, settles, understood, most_waiting, settled, draws, at_session, at_hearing, joined, left, changed, without_form, without_forms, site_from, answered_from, taken, flushed_by}
use Rattle.group_world.specs.declared.event.Event.{Event}
use Rattle.group_world.specs.declared.event.Event.TheVariants.{Join, Draw, Leave}
use Rattle.group_world.specs.declared.event.Outcome.{Outcome}
use Rattle.group_world.specs.declared.event.Outcome.TheVariants.{Ready}
use Rattle.group_world.specs.Continuing.{is_leave, text_by, text_heard, text_found}
use Rattle.group_world.proofs.Phases.{own_phase, other_phase, gone_phase}
use Rattle.group_world.proofs.SessionNumbers.{IsNumbered, nobody, left_is_new}

-- ---- one step

-- the session had a reply before the event, and stays
abbrev pub Had : World → ℕ → Event → Type 0
Had w id e = (had : List ℕ) × (phase_of w id ≡ Some (Reply had)) × (not (is_leave id e) ≡ true)

-- or the event completes its request
abbrev pub Asks : World → ℕ → Event → Outcome → Type 0
Asks w id e o = (text : List ℕ) × (text_found w id e ≡ Some text) × (o ≡ Ready)

abbrev pub ComesFrom : World → ℕ → Event → Next → Type 0
ComesFrom w id e next = (given : List ℕ) → phase_of next.world id ≡ Some (Reply given) → Had w id e ⊎ Asks w id e next.outcome

-- a right answer to a request is its reply
abbrev pub Gives : Site → ℕ → Verdict → StepResult → List ℕ → Type 0
Gives site now v r given = r.phase ≡ Reply given → (text : List ℕ) × (text_by site now v ≡ Some text) × (r.outcome ≡ Ready)

waits_gives : (site : Site) (request : Request) (now : ℕ) (given : List ℕ) (post : Option Change) → Gives site now (Whole request) (waits_or request now (reply site request now) post) given
waits_gives site request now given None is = ((reply site request now).bytes, refl, refl)
waits_gives site request now given (Some post) is = absurd (cc is)

settles_gives : (grouped : Bool) (site : Site) (request : Request) (now : ℕ) (given : List ℕ) → Gives site now (Whole request) (settles grouped request now (reply site request now)) given
settles_gives true site request now given is = waits_gives site request now given (reply site request now).post is
settles_gives false site request now given is = ((reply site request now).bytes, refl, refl)

pub understood_gives : (grouped : Bool) (site : Site) (now : ℕ) (stream given : List ℕ) (v : Verdict) → Gives site now v (understood grouped site now stream v) given
understood_gives grouped site now stream given Open is = absurd (cc is)
understood_gives grouped site now stream given EndedEarly is = absurd (cc is)
understood_gives grouped site now stream given (Whole request) is = settles_gives grouped site request now given is
understood_gives grouped site now stream given (Bad cause) is = (bad_reply cause, refl, refl)

-- a session that has heard its request, with the reply or behind all others
settled_gives : (w : World) (id now : ℕ) (r : StepResult) (next q : Phase) (given : List ℕ) (v : Verdict) → phase_of w id ≡ Some q → ((rest : List ℕ) → q ≡ Reply rest → ⊥) → r.phase ≡ next → IsNumbered w → Gives w.site now v r given
    → phase_of (settled w id now r next).world id ≡ Some (Reply given) → (text : List ℕ) × (text_by w.site now v ≡ Some text) × ((settled w id now r next).outcome ≡ Ready)
settled_gives w id now r (Heard stream) q given v at heard same numbered gives has = (let there : Some r.phase ≡ Some (Reply given) = sym (own_phase w.sessions id r.phase q at) ∙ has in gives (cc there))
settled_gives w id now r (Reply rest) q given v at heard same numbered gives has = (let there : Some r.phase ≡ Some (Reply given) = sym (own_phase w.sessions id r.phase q at) ∙ has in gives (cc there))
settled_gives w id now r Early q given v at heard same numbered gives has = (let there : Some r.phase ≡ Some (Reply given) = sym (own_phase w.sessions id r.phase q at) ∙ has in gives (cc there))
settled_gives w id now r (Waits request since) q given v at heard same numbered gives has =
    elim (cases_Bool (nat_le most_waiting (count_waiting w.sessions))) [
      | inl full ↦ (let there : phase_of w id ≡ Some (Reply given) = rw full at has in let is : Some q ≡ Some (Reply given) = sym at ∙ there in absurd (heard given (cc is)))
      | inr room ↦
          let there : phase_in (others_in w.sessions id ++ (id, Waits request since) ∷ []) id ≡ Some (Reply given) = rw room at has in
          absurd (last_waits (others_in w.sessions id) (nobody (others_in w.sessions id) id (left_is_new w.next w.sessions id numbered)) there)
    ]
  where
    last_waits : (ss : List (ℕ × Phase)) → phase_in ss id ≡ None → phase_in (ss ++ (id, Waits request since) ∷ []) id ≡ Some (Reply given) → ⊥
    last_waits [] none there = (let no : Some (Waits request since) ≡ Some (Reply given) = sym (rw (eq-eqb id id refl) refl) ∙ there in cc no)
    last_waits (s ∷ ss) none there =
        elim (cases_Bool (s.0 == id)) [
          | inl e ↦ (let no : Some s.1 ≡ None = sym (rw e refl) ∙ none in absurd (cc no))
          | inr o ↦ last_waits ss (sym (rw o refl) ∙ none) (sym (rw o refl) ∙ there)
        ]

-- the session itself hears something
pub own_hears : (w : World) (id now : ℕ) (e : Event) (says : List ℕ → Verdict) (f : Phase → StepResult) (p : Option Phase) → phase_of w id ≡ p → IsNumbered w → not (is_leave id e) ≡ true → text_found w id e ≡ text_heard w.site now says (phase_of w id)
    → ((stream given : List ℕ) → Gives w.site now (says stream) (f (Heard stream)) given) → ((request : Request) (since : ℕ) → (f (Waits request since)).phase ≡ Waits request since) → (f Early).phase ≡ Early → ComesFrom w id e (at_hearing w id now f p)
own_hears w id now e says f None at numbered stays found gives waits early given has = (let no : None ≡ Some (Reply given) = sym at ∙ has in absurd (cc no))
own_hears w id now e says f (Some (Heard stream)) at numbered stays found gives waits early given has =
    let asked = settled_gives w id now (f (Heard stream)) (f (Heard stream)).phase (Heard stream) given (says stream) at (λ rest is. cc is) refl numbered (gives stream given) has in
    inr (asked.0, found ∙ ap (text_heard w.site now says) at ∙ asked.1, asked.2)
own_hears w id now e says f (Some (Waits request since)) at numbered stays found gives waits early given has =
    let there : Some (Waits request since) ≡ Some (Reply given) = sym (own_phase w.sessions id (f (Waits request since)).phase (Waits request since) at ∙ ap (λ (q : Phase). Some q) (waits request since)) ∙ has in absurd (cc there)
own_hears w id now e says f (Some (Reply rest)) at numbered stays found gives waits early given has = inl (rest, at, stays)
own_hears w id now e says f (Some Early) at numbered stays found gives waits early given has =
    let there : Some Early ≡ Some (Reply given) = sym (own_phase w.sessions id (f Early).phase Early at ∙ ap (λ (q : Phase). Some q) early) ∙ has in absurd (cc there)

-- another session hears something, and may go behind the others
other_settles : (w : World) (n id now : ℕ) (r : StepResult) (next : Phase) (given : List ℕ) → (n == id) ≡ false → phase_of (settled w n now r next).world id ≡ Some (Reply given) → phase_of w id ≡ Some (Reply given)
other_settles w n id now r (Heard stream) given other has = sym (other_phase w.sessions n id r.phase other) ∙ has
other_settles w n id now r (Reply rest) given other has = sym (other_phase w.sessions n id r.phase other) ∙ has
other_settles w n id now r Early given other has = sym (other_phase w.sessions n id r.phase other) ∙ has
other_settles w n id now r (Waits request since) given other has =
    elim (cases_Bool (nat_le most_waiting (count_waiting w.sessions))) [
      | inl full ↦ rw full at has
      | inr room ↦ (let there : phase_in (others_in w.sessions n ++ (n, Waits request since) ∷ []) id ≡ Some (Reply given) = rw room at has in sym (gone_phase w.sessions n id other) ∙ in_front (others_in w.sessions n) there)
    ]
  where
    in_front : (ss : List (ℕ × Phase)) → phase_in (ss ++ (n, Waits request since) ∷ []) id ≡ Some (Reply given) → phase_in ss id ≡ Some (Reply given)
    in_front [] there = (let no : None ≡ Some (Reply given) = sym (rw other refl) ∙ there in absurd (cc no))
    in_front (s ∷ ss) there =
        elim (cases_Bool (s.0 == id)) [
          | inl e ↦ rw e (sym (rw e refl) ∙ there)
          | inr o ↦ rw o (in_front ss (sym (rw o refl) ∙ there))
        ]

pub other_hears : (w : World) (n id now : ℕ) (e : Event) (f : Phase → StepResult) (p : Option Phase) → (n == id) ≡ false → not (is_leave id e) ≡ true → ComesFrom w id e (at_hearing w n now f p)
other_hears w n id now e f None other stays given has = inl (given, has, stays)
other_hears w n id now e f (Some (Heard stream)) other stays given has = inl (given, other_settles w n id now (f (Heard stream)) (f (Heard stream)).phase given other has, stays)
other_hears w n id now e f (Some (Waits request since)) other stays given has = inl (given, sym (other_phase w.sessions n id (f (Waits request since)).phase other) ∙ has, stays)
other_hears w n id now e f (Some (Reply rest)) other stays given has = inl (given, sym (other_phase w.sessions n id (f (Reply rest)).phase other) ∙ has, stays)
other_hears w n id now e f (Some Early) other stays given has = inl (given, sym (other_phase w.sessions n id (f Early).phase other) ∙ has, stays)

pub own_draws : (w : World) (id room : ℕ) (p : Option Phase) → phase_of w id ≡ p → ComesFrom w id (Draw id room) (at_session w id (draws room) p)
own_draws w id room None at given has = (let no : None ≡ Some (Reply given) = sym at ∙ has in absurd (cc no))
own_draws w id room (Some (Heard stream)) at given has = (let no : Some (Heard stream) ≡ Some (Reply given) = sym (own_phase w.sessions id (Heard stream) (Heard stream) at) ∙ has in absurd (cc no))
own_draws w id room (Some (Waits request since)) at given has = (let no : Some (Waits request since) ≡ Some (Reply given) = sym (own_phase w.sessions id (Waits request since) (Waits request since) at) ∙ has in absurd (cc no))
own_draws w id room (Some Early) at given has = (let no : Some Early ≡ Some (Reply given) = sym (own_phase w.sessions id Early Early at) ∙ has in absurd (cc no))
own_draws w id room (Some (Reply rest)) at given has = inl (rest, at, refl)

pub other_draws : (w : World) (n id room : ℕ) (p : Option Phase) → (n == id) ≡ false → ComesFrom w id (Draw n room) (at_session w n (draws room) p)
other_draws w n id room None other given has = inl (given, has, refl)
other_draws w n id room (Some p) other given has = inl (given, sym (other_phase w.sessions n id (draws room p).phase other) ∙ has, refl)

pub leaves_from : (w : World) (n id : ℕ) (p : Option Phase) → IsNumbered w → phase_of w n ≡ p → ComesFrom w id (Leave n) (left w n p)
leaves_from w n id None numbered at given has =
    elim (cases_Bool (n == id)) [
      | inl same ↦ (let no : None ≡ Some (Reply given) = sym at ∙ ap (phase_of w) (eqb-true n id same) ∙ has in absurd (cc no))
      | inr other ↦ inl (given, has, ap not other)
    ]
leaves_from w n id (Some q) numbered at given has =
    elim (cases_Bool (n == id)) [
      | inl same ↦
          let gone = ap (λ (k : ℕ). phase_in (others_in w.sessions n) k) (eqb-true n id same) in
          let no : None ≡ Some (Reply given) = sym (nobody (others_in w.sessions n) n (left_is_new w.next w.sessions n numbered)) ∙ gone ∙ has in absurd (cc no)
      | inr other ↦ inl (given, sym (gone_phase w.sessions n id other) ∙ has, ap not other)
    ]

pub joins_from : (w : World) (id : ℕ) → ComesFrom w id Join (joined w)
unfolding joined
joins_from w id given has =
    elim (cases_Bool (nat_le 32 (length w.sessions))) [
      | inl full ↦ inl (given, rw full at has, refl)
      | inr room ↦ elim (cases_Bool (w.next == 2 ^ 64 - 1)) [
        | inl last ↦ inl (given, rw (room, last) at has, refl)
        | inr less ↦ inl (given, in_front w.sessions (rw (room, less) at has), refl)
      ]
    ]
  where
    alone : phase_in ((w.next, Heard []) ∷ []) id ≡ Some (Reply given) → ⊥
    alone there =
        elim (cases_Bool (w.next == id)) [
          | inl e ↦ (let no : Some (Heard []) ≡ Some (Reply given) = sym (rw e refl) ∙ there in cc no)
          | inr o ↦ (let no : None ≡ Some (Reply given) = sym (rw o refl) ∙ there in cc no)
        ]

    in_front : (ss : List (ℕ × Phase)) → phase_in (ss ++ (w.next, Heard []) ∷ []) id ≡ Some (Reply given) → phase_in ss id ≡ Some (Reply given)
    in_front [] there = absurd (alone there)
    in_front (s ∷ ss) there =
        elim (cases_Bool (s.0 == id)) [
          | inl e ↦ rw e (sym (rw e refl) ∙ there)
          | inr o ↦ rw o (in_front ss (sym (rw o refl) ∙ there))
        ]

pub admin_from : (w : World) (id : ℕ) (e : Event) (r : Result Site Refused) → not (is_leave id e) ≡ true → ComesFrom w id e (changed w r)
admin_from w id e (Ok site) stays given has = inl (given, has, stays)
admin_from w id e (Err refused) stays given has = inl (given, has, stays)

-- ---- a flush

-- who has a reply behind a flush had it before, or waited
abbrev pub HadOrWaited : List (ℕ × Phase) → ℕ → List ℕ → Type 0
HadOrWaited ss id given = (phase_in ss id ≡ Some (Reply given)) ⊎ ((request : Request) × (now : ℕ) × (phase_in ss id ≡ Some (Waits request now)))

one_before : (s : ℕ × Phase) (ss : List (ℕ × Phase)) (id : ℕ) (given : List ℕ) → (s.0 == id) ≡ false → HadOrWaited ss id given → HadOrWaited (s ∷ ss) id given
one_before s ss id given other (inl had) = inl (rw other had)
one_before s ss id given other (inr (request, now, waited)) = inr (request, now, rw other waited)

own_before : (p q : Phase) (given : List ℕ) → ((stream : List ℕ) → p ≡ Heard stream → q ≡ Heard stream) → (p ≡ Early → q ≡ Early) → ((rest : List ℕ) → p ≡ Reply rest → q ≡ Reply rest) → q ≡ Reply given → (p ≡ Reply given) ⊎ ((request : Request) × (now : ℕ) × (p ≡ Waits request now))
own_before (Heard stream) q given heard early replied is = (let no : Heard stream ≡ Reply given = sym (heard stream refl) ∙ is in absurd (cc no))
own_before (Waits request now) q given heard early replied is = inr (request, now, refl)
own_before (Reply rest) q given heard early replied is = inl (sym (replied rest refl) ∙ is)
own_before Early q given heard early replied is = (let no : Early ≡ Reply given = sym (early refl) ∙ is in absurd (cc no))

here_before : (s : ℕ × Phase) (ss : List (ℕ × Phase)) (id : ℕ) (given : List ℕ) → (s.0 == id) ≡ true → (s.1 ≡ Reply given) ⊎ ((request : Request) × (now : ℕ) × (s.1 ≡ Waits request now)) → HadOrWaited (s ∷ ss) id given
here_before s ss id given same (inl had) = inl (rw same (ap (λ (p : Phase). Some p) had))
here_before s ss id given same (inr (request, now, waited)) = inr (request, now, rw same (ap (λ (p : Phase). Some p) waited))

answered_before : (s : Site) (p : Phase) (given : List ℕ) → answered_from s p ≡ Reply given → (p ≡ Reply given) ⊎ ((request : Request) × (now : ℕ) × (p ≡ Waits request now))
answered_before s p given is = own_before p (answered_from s p) given (λ stream same. ap (answered_from s) same) (λ same. ap (answered_from s) same) (λ rest same. ap (answered_from s) same) is

form_before : (s : Site) (p : Phase) (given : List ℕ) → without_form s p ≡ Reply given → (p ≡ Reply given) ⊎ ((request : Request) × (now : ℕ) × (p ≡ Waits request now))
form_before s p given is = own_before p (without_form s p) given (λ stream same. ap (without_form s) same) (λ same. ap (without_form s) same) (λ rest same. ap (without_form s) same) is

taken_before : (s : Site) (choices : List Bool) (ss : List (ℕ × Phase)) (id : ℕ) (given : List ℕ) → phase_in (taken s choices ss).sessions id ≡ Some (Reply given) → HadOrWaited ss id given
taken_before s [] ss id given has = inl has
taken_before s (takes ∷ choices) [] id given has = inl has
taken_before s (true ∷ choices) (x ∷ ss) id given has =
    elim (cases_Bool (x.0 == id)) [
      | inl e ↦ (let here : Some (answered_from s x.1) ≡ Some (Reply given) = sym (rw e refl) ∙ has in here_before x ss id given e (answered_before s x.1 given (cc here)))
      | inr o ↦ one_before x ss id given o (taken_before (site_from s x.1) choices ss id given (sym (rw o refl) ∙ has))
    ]
taken_before s (false ∷ choices) (x ∷ ss) id given has =
    elim (cases_Bool (x.0 == id)) [
      | inl e ↦ (let here : Some x.1 ≡ Some (Reply given) = sym (rw e refl) ∙ has in inl (rw e here))
      | inr o ↦ one_before x ss id given o (taken_before s choices ss id given (sym (rw o refl) ∙ has))
    ]

forms_before : (s : Site) (ss : List (ℕ × Phase)) (id : ℕ) (given : List ℕ) → phase_in (without_forms s ss) id ≡ Some (Reply given) → HadOrWaited ss id given
forms_before s [] id given has = inl has
forms_before s (x ∷ ss) id given has =
    elim (cases_Bool (x.0 == id)) [
      | inl e ↦ (let here : Some (without_form s x.1) ≡ Some (Reply given) = sym (rw e refl) ∙ has in here_before x ss id given e (form_before s x.1 given (cc here)))
      | inr o ↦ one_before x ss id given o (forms_before s ss id given (sym (rw o refl) ∙ has))
    ]

-- one that still waits when those without a form are answered waited before
waits_before : (s : Site) (ss : List (ℕ × Phase)) (id : ℕ) (request : Request) (now : ℕ) → phase_in (without_forms s ss) id ≡ Some (Waits request now) → (r : Request) × (m : ℕ) × (phase_in ss id ≡ Some (Waits r m))
waits_before s [] id request now has = absurd (cc has)
waits_before s (x ∷ ss) id request now has =
    elim (cases_Bool (x.0 == id)) [
      | inl e ↦ (let here : Some (without_form s x.1) ≡ Some (Waits request now) = sym (rw e refl) ∙ has in own x.1 e (cc here) refl)
      | inr o ↦ behind o (waits_before s ss id request now (sym (rw o refl) ∙ has))
    ]
  where
    own : (p : Phase) → (x.0 == id) ≡ true → without_form s p ≡ Waits request now → p ≡ x.1 → (r : Request) × (m : ℕ) × (phase_in (x ∷ ss) id ≡ Some (Waits r m))
    own (Heard stream) e is same = absurd (cc is)
    own (Waits r m) e is same = (r, m, rw e (ap (λ (p : Phase). Some p) (sym same)))
    own (Reply rest) e is same = absurd (cc is)
    own Early e is same = absurd (cc is)

    behind : (x.0 == id) ≡ false → (r : Request) × (m : ℕ) × (phase_in ss id ≡ Some (Waits r m)) → (r : Request) × (m : ℕ) × (phase_in (x ∷ ss) id ≡ Some (Waits r m))
    behind o (r, m, waited) = (r, m, rw o waited)

pub flushed_before : (w : World) (choices : List Bool) (id : ℕ) (given : List ℕ) → phase_in (flushed_by w choices).sessions id ≡ Some (Reply given) → HadOrWaited w.sessions id given
flushed_before w choices id given has = by (taken_before w.site choices (without_forms w.site w.sessions) id given has)
  where
    by : HadOrWaited (without_forms w.site w.sessions) id given → HadOrWaited w.sessions id given
    by (inl had) = forms_before w.site w.sessions id given had
    by (inr (request, now, waited)) = inr (waits_before w.site w.sessions id request now waited)
