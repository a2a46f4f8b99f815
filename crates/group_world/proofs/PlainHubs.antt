-- In a hub whose posts don't wait none ever does.
use Rattle.std.proofs.Common.{◌≡◌, ◌⊎◌, inl, inr, ⊎_elim, ℕ, ◌+◌, ◌-◌, ◌^◌, ◌==◌, ◌≤◌, Bool, true, false, List, [], ◌∷◌, ◌++◌, length, nat_le, refl, sym, ap, subst, ◌∙◌, arith, if◌then◌else◌}
use Rattle.std.specs.Prelude.{Option, Some, None, Result, Ok, Err, nat_lt}
use Rattle.std.proofs.lemmas.Bool.{cases_Bool}
use Rattle.host_types.specs.Site.{Site}
use Rattle.host_types.specs.Change.{apply}
use Rattle.host_types.specs.declared.change.Change.{Change}
use Rattle.common_types.specs.declared.refused.Refused.{Refused}
use Rattle.request_reader.specs.Verdict.{Verdict, Open, Early as EndedEarly, Whole, Bad, verdict}
use Rattle.site_replies.specs.Reply.{WholeAnswer, reply}
use Rattle.group_world.specs.declared.fault.HubFault.TheVariants as hub
use Rattle.group_world.specs.World.{World, Phase, Heard, Waits, Reply, Early, phase_in, phase_of, moved_in, others_in, one_waiting, count_waiting}
use Rattle.group_world.specs.Step.{Changes, Group, StepResult, Next, at_session, at_hearing, heard_by, settled, moves, understood, listens, ends, draws, joined, left, changed, without_form, without_forms, at_moment, taken, all_of, flushed_by, whole_group, answer, failed_answer, step}
use Rattle.group_world.specs.declared.event.Event.{Event}
use Rattle.group_world.specs.declared.event.Event.TheVariants.{Join, Bytes, End, Draw, Leave, Admin, Flush}
use Rattle.group_world.specs.declared.event.Outcome.{Outcome}
use Rattle.group_world.specs.declared.event.Outcome.TheVariants.{Joined, More, Ready, Finished, Waiting, Drawn, Gone, Done, Flushed, Fault}
use Rattle.group_world.specs.Run.{post_in, valid_one, changes_in, has_changes, Step, StepBy, IsAnswer, IsFaulty, IsSplit}
use Rattle.group_world.specs.PlainHubs.{IsPlain, StaysPlain, PlainHubsStay}

-- ---- sessions of which none waits

none_in : (ss : List (ℕ × Phase)) (id : ℕ) (p : Phase) → count_waiting ss ≡ 0 → phase_in ss id ≡ Some p → one_waiting p ≡ 0
none_in [] id p none is = absurd (cc is)
none_in (s ∷ ss) id p none is =
    elim (cases_Bool (s.0 == id)) [
      | inl here ↦ (let same : Some s.1 ≡ Some p = sym (rw here refl) ∙ is in let own : s.1 ≡ p = cc same in ap one_waiting (sym own) ∙ omega (arith, none))
      | inr other ↦ (let there : phase_in ss id ≡ Some p = sym (rw other refl) ∙ is in none_in ss id p (omega (arith, none)) there)
    ]

none_moved : (ss : List (ℕ × Phase)) (id : ℕ) (p : Phase) → count_waiting ss ≡ 0 → one_waiting p ≡ 0 → count_waiting (moved_in ss id p) ≡ 0
none_moved [] id p none free = refl
none_moved (s ∷ ss) id p none free =
    elim (cases_Bool (s.0 == id)) [
      | inl here ↦ rw here (omega (arith, none, free))
      | inr other ↦ rw other (omega (arith, none, none_moved ss id p (omega (arith, none)) free))
    ]

none_gone : (ss : List (ℕ × Phase)) (id : ℕ) → count_waiting ss ≡ 0 → count_waiting (others_in ss id) ≡ 0
none_gone [] id none = refl
none_gone (s ∷ ss) id none =
    elim (cases_Bool (s.0 == id)) [
      | inl here ↦ rw here (omega (arith, none))
      | inr other ↦ rw other (omega (arith, none, none_gone ss id (omega (arith, none))))
    ]

none_more : (ss ts : List (ℕ × Phase)) → count_waiting ss ≡ 0 → count_waiting ts ≡ 0 → count_waiting (ss ++ ts) ≡ 0
none_more [] ts none later = later
none_more (s ∷ ss) ts none later = omega (arith, none, none_more ss ts (omega (arith, none)) later)

-- a flush of them does nothing
same_form : (s : Site) (p : Phase) → one_waiting p ≡ 0 → without_form s p ≡ p
same_form s (Heard stream) free = refl
same_form s (Waits request now) free = absurd (omega (arith, free))
same_form s (Reply rest) free = refl
same_form s Early free = refl

same_forms : (s : Site) (ss : List (ℕ × Phase)) → count_waiting ss ≡ 0 → without_forms s ss ≡ ss
same_forms s [] none = refl
same_forms s (x ∷ ss) none =
    let first : (x.0, without_form s x.1) ≡ x = ap (λ (p : Phase). let y : ℕ × Phase = (x.0, p) in y) (same_form s x.1 (omega (arith, none))) in
    let rest = same_forms s ss (omega (arith, none)) in
    ap (λ (y : ℕ × Phase). y ∷ without_forms s ss) first ∙ ap (λ (l : List (ℕ × Phase)). x ∷ l) rest

abbrev Untouched : Site → List (ℕ × Phase) → Group → Type 0
Untouched s ss g = (g.site ≡ s) × (g.sessions ≡ ss) × (g.changes ≡ [])

one_untouched : (s : Site) (choices : List Bool) (n : ℕ) (p : Phase) (ss : List (ℕ × Phase)) → one_waiting p ≡ 0 → Untouched s ss (taken s choices ss) → Untouched s ((n, p) ∷ ss) (taken s (true ∷ choices) ((n, p) ∷ ss))
one_untouched s choices n (Heard stream) ss free rest = (rest.0, ap (λ (l : List (ℕ × Phase)). (n, Heard stream) ∷ l) rest.1, rest.2)
one_untouched s choices n (Waits request now) ss free rest = absurd (omega (arith, free))
one_untouched s choices n (Reply left) ss free rest = (rest.0, ap (λ (l : List (ℕ × Phase)). (n, Reply left) ∷ l) rest.1, rest.2)
one_untouched s choices n Early ss free rest = (rest.0, ap (λ (l : List (ℕ × Phase)). (n, Early) ∷ l) rest.1, rest.2)

untouched : (s : Site) (ss : List (ℕ × Phase)) → count_waiting ss ≡ 0 → Untouched s ss (taken s (all_of ss) ss)
untouched s [] none = (refl, refl, refl)
untouched s (x ∷ ss) none = one_untouched s (all_of ss) x.0 x.1 ss (omega (arith, none)) (untouched s ss (omega (arith, none)))

group_untouched : (w : World) → count_waiting w.sessions ≡ 0 → Untouched w.site w.sessions (whole_group w)
group_untouched w none = subst (λ (l : List (ℕ × Phase)). Untouched w.site w.sessions (taken w.site (all_of w.sessions) l)) (sym (same_forms w.site w.sessions none)) (untouched w.site w.sessions none)

-- ---- what a session hears

understood_free : (site : Site) (now : ℕ) (stream : List ℕ) (v : Verdict) → one_waiting (understood false site now stream v).phase ≡ 0
understood_free site now stream Open = refl
understood_free site now stream EndedEarly = refl
understood_free site now stream (Whole request) = refl
understood_free site now stream (Bad cause) = refl

listens_free : (site : Site) (now : ℕ) (piece : List ℕ) (p : Phase) → one_waiting p ≡ 0 → one_waiting (listens false site now piece p).phase ≡ 0
listens_free site now piece (Heard stream) free = understood_free site now (stream ++ piece) (verdict (stream ++ piece) false)
listens_free site now piece (Waits request at) free = free
listens_free site now piece (Reply rest) free = refl
listens_free site now piece Early free = refl

ends_free : (site : Site) (now : ℕ) (p : Phase) → one_waiting p ≡ 0 → one_waiting (ends false site now p).phase ≡ 0
ends_free site now (Heard stream) free = understood_free site now stream (verdict stream true)
ends_free site now (Waits request at) free = free
ends_free site now (Reply rest) free = refl
ends_free site now Early free = refl

draws_free : (room : ℕ) (p : Phase) → one_waiting p ≡ 0 → one_waiting (draws room p).phase ≡ 0
draws_free room (Heard stream) free = refl
draws_free room (Waits request at) free = free
draws_free room (Reply []) free = refl
draws_free room (Reply (b ∷ rest)) free = refl
draws_free room Early free = refl

abbrev Calm : World → World → Type 0
Calm w v = (v.grouped ≡ w.grouped) × (count_waiting v.sessions ≡ 0)

settled_calm : (w : World) (id now : ℕ) (r : StepResult) (next : Phase) → count_waiting w.sessions ≡ 0 → r.phase ≡ next → one_waiting next ≡ 0 → Calm w (settled w id now r next).world
settled_calm w id now r (Heard stream) none same free = (refl, none_moved w.sessions id r.phase none (ap one_waiting same ∙ free))
settled_calm w id now r (Waits request at) none same free = absurd (omega (arith, free))
settled_calm w id now r (Reply rest) none same free = (refl, none_moved w.sessions id r.phase none (ap one_waiting same ∙ free))
settled_calm w id now r Early none same free = (refl, none_moved w.sessions id r.phase none (ap one_waiting same ∙ free))

heard_calm : (w : World) (id now : ℕ) (f : Phase → StepResult) (p : Phase) → count_waiting w.sessions ≡ 0 → one_waiting (f p).phase ≡ 0 → Calm w (heard_by w id now (f p) p).world
heard_calm w id now f (Heard stream) none free = settled_calm w id now (f (Heard stream)) (f (Heard stream)).phase none refl free
heard_calm w id now f (Waits request at) none free = (refl, none_moved w.sessions id (f (Waits request at)).phase none free)
heard_calm w id now f (Reply rest) none free = (refl, none_moved w.sessions id (f (Reply rest)).phase none free)
heard_calm w id now f Early none free = (refl, none_moved w.sessions id (f Early).phase none free)

hearing_calm : (w : World) (id now : ℕ) (f : Phase → StepResult) (o : Option Phase) → phase_of w id ≡ o → count_waiting w.sessions ≡ 0 → ((p : Phase) → one_waiting p ≡ 0 → one_waiting (f p).phase ≡ 0) → Calm w (at_hearing w id now f o).world
hearing_calm w id now f None is none free = (refl, none)
hearing_calm w id now f (Some p) is none free = heard_calm w id now f p none (free p (none_in w.sessions id p none is))

session_calm : (w : World) (id : ℕ) (f : Phase → StepResult) (o : Option Phase) → phase_of w id ≡ o → count_waiting w.sessions ≡ 0 → ((p : Phase) → one_waiting p ≡ 0 → one_waiting (f p).phase ≡ 0) → Calm w (at_session w id f o).world
session_calm w id f None is none free = (refl, none)
session_calm w id f (Some p) is none free = (refl, none_moved w.sessions id (f p).phase none (free p (none_in w.sessions id p none is)))

-- ---- the other events

left_calm : (w : World) (id : ℕ) (o : Option Phase) → count_waiting w.sessions ≡ 0 → Calm w (left w id o).world
left_calm w id None none = (refl, none)
left_calm w id (Some p) none = (refl, none_gone w.sessions id none)

changed_calm : (w : World) (r : Result Site Refused) → count_waiting w.sessions ≡ 0 → Calm w (changed w r).world
changed_calm w (Ok site) none = (refl, none)
changed_calm w (Err refused) none = (refl, none)

joined_calm : (w : World) → count_waiting w.sessions ≡ 0 → Calm w (joined w).world
unfolding joined
joined_calm w none =
    elim (cases_Bool (nat_le 32 (length w.sessions))) [
      | inl full ↦ rw full (refl, none)
      | inr room ↦ elim (cases_Bool (w.next == 2 ^ 64 - 1)) [ inl last ↦ rw (room, last) (refl, none) | inr less ↦ rw (room, less) (refl, none_more w.sessions ((w.next, Heard []) ∷ []) none refl) ]
    ]

answer_calm : (w : World) (e : Event) → w.grouped ≡ false → count_waiting w.sessions ≡ 0 → Calm w (answer w e).world
answer_calm w Join plain none = joined_calm w none
answer_calm w (Bytes id piece now) plain none =
    hearing_calm w id now (listens w.grouped w.site now piece) (phase_of w id) refl none (λ p free. subst (λ (b : Bool). one_waiting (listens b w.site now piece p).phase ≡ 0) (sym plain) (listens_free w.site now piece p free))
answer_calm w (End id now) plain none = hearing_calm w id now (ends w.grouped w.site now) (phase_of w id) refl none (λ p free. subst (λ (b : Bool). one_waiting (ends b w.site now p).phase ≡ 0) (sym plain) (ends_free w.site now p free))
answer_calm w (Draw id room) plain none = session_calm w id (draws room) (phase_of w id) refl none (draws_free room)
answer_calm w (Leave id) plain none = left_calm w id (phase_of w id) none
answer_calm w (Admin change now) plain none = changed_calm w (apply w.site change now) none
answer_calm w Flush plain none = (refl, ap count_waiting (group_untouched w none).1 ∙ none)

failed_calm : (w : World) (e : Event) → count_waiting w.sessions ≡ 0 → Calm w (failed_answer w e).world
failed_calm w (Leave id) none = left_calm w id (phase_of w id) none
failed_calm w Join none = (refl, none)
failed_calm w (Bytes id piece now) none = (refl, none)
failed_calm w (End id now) none = (refl, none)
failed_calm w (Draw id room) none = (refl, none)
failed_calm w (Admin change now) none = (refl, none)
failed_calm w Flush none = (refl, none)

step_calm : (w : World) (e : Event) → w.grouped ≡ false → count_waiting w.sessions ≡ 0 → Calm w (step w e).world
step_calm w e plain none = by w.failed
  where
    by : (b : Bool) → Calm w (if b then failed_answer w e else answer w e).world
    by true = failed_calm w e none
    by false = answer_calm w e plain none

-- ---- a fault in place of the answer

same_calm : (w v : World) → v ≡ w → count_waiting w.sessions ≡ 0 → Calm w v
same_calm w v same none = subst (λ (x : World). Calm w x) (sym same) (refl, none)

faulty_calm : (w v : World) (e : Event) (o : Outcome) → IsFaulty w e o v → count_waiting w.sessions ≡ 0 → Calm w v
faulty_calm w v e (Fault hub.Failed) is none = subst (λ (x : World). Calm w x) (sym is.1) (refl, none)
faulty_calm w v e (Fault hub.Unknown) is none = same_calm w v is.1 none
faulty_calm w v e (Fault hub.Crowded) is none = same_calm w v is.1 none
faulty_calm w v e (Fault hub.Spent) is none = same_calm w v is.1 none
faulty_calm w v e (Fault hub.Deep) is none = same_calm w v is.1 none
faulty_calm w v e (Fault (hub.Refused r)) is none = same_calm w v is.1 none
faulty_calm w v e (Fault (hub.Full need free)) is none = same_calm w v is.1 none
faulty_calm w v e (Fault hub.Broken) is none = same_calm w v is.1 none
faulty_calm w v e (Fault hub.Memory) is none = same_calm w v is.1 none
faulty_calm w v e (Fault hub.NotReady) is none = same_calm w v is.1 none
faulty_calm w v e (Joined k) is none = absurd is
faulty_calm w v e More is none = absurd is
faulty_calm w v e Ready is none = absurd is
faulty_calm w v e Finished is none = absurd is
faulty_calm w v e Waiting is none = absurd is
faulty_calm w v e (Drawn bytes) is none = absurd is
faulty_calm w v e Gone is none = absurd is
faulty_calm w v e Done is none = absurd is
faulty_calm w v e (Flushed answered left) is none = absurd is

-- there is nothing to be made one at a time
never_split : (w v : World) (e : Event) (o : Outcome) → count_waiting w.sessions ≡ 0 → IsSplit w e o v → ⊥
never_split w v Flush o none is = (let no : false ≡ true = sym (ap (λ (l : Changes). nat_lt 0 (length l)) (group_untouched w none).2) ∙ is.0 in cc no)
never_split w v Join o none is = is
never_split w v (Bytes id piece now) o none is = is
never_split w v (End id now) o none is = is
never_split w v (Draw id room) o none is = is
never_split w v (Leave id) o none is = is
never_split w v (Admin change now) o none is = is

step_by_calm : (failed : Bool) (w v : World) (e : Event) (o : Outcome) → w.grouped ≡ false → count_waiting w.sessions ≡ 0 → StepBy failed w e o v → Calm w v
step_by_calm true w v e o plain none is = subst (λ (x : World). Calm w x) (sym is.1) (step_calm w e plain none)
step_by_calm false w v e o plain none (inl is) = subst (λ (x : World). Calm w x) (sym is.1) (step_calm w e plain none)
step_by_calm false w v e o plain none (inr (inl is)) = faulty_calm w v e o is none
step_by_calm false w v e o plain none (inr (inr is)) = absurd (never_split w v e o none is)

-- ---- changes

one_at_most : (now : ℕ) (post : Option Change) → length (at_moment now post) ≤ 1
one_at_most now None = omega arith
one_at_most now (Some change) = omega arith

one_post : (o : Option Phase) (now : ℕ) (f : Phase → StepResult) → length (post_in o now f) ≤ 1
one_post None now f = omega arith
one_post (Some p) now f = one_at_most now (f p).post

one_valid : (change : Change) (now : ℕ) (r : Result Site Refused) → length (valid_one change now r) ≤ 1
one_valid change now (Ok site) = omega arith
one_valid change now (Err refused) = omega arith

one_change : (w : World) (e : Event) → count_waiting w.sessions ≡ 0 → length (changes_in w e) ≤ 1
one_change w Join none = omega arith
one_change w (Bytes id piece now) none = one_post (phase_of w id) now (listens w.grouped w.site now piece)
one_change w (End id now) none = one_post (phase_of w id) now (ends w.grouped w.site now)
one_change w (Draw id room) none = omega arith
one_change w (Leave id) none = omega arith
one_change w (Admin change now) none = one_valid change now (apply w.site change now)
one_change w Flush none = subst (λ (l : Changes). length l ≤ 1) (sym (group_untouched w none).2) (omega arith)

pub plain_hubs_stay : PlainHubsStay
plain_hubs_stay w v e o plain step =
    let calm = step_by_calm w.failed w v e o plain.plain plain.none step in
    record {
      stays = record { plain = calm.0 ∙ plain.plain; none = calm.1 };
      one = one_change w e plain.none;
    }
