-- No two sessions have one number, and each number is below the next.
use Rattle.std.proofs.Common.{◌≡◌, ℕ, ◌+◌, ◌-◌, ◌^◌, ◌<◌, Bool, true, false, List, [], ◌∷◌, ◌++◌, ◌==◌, length, map, nat_le, refl, sym, ap, subst, ◌∙◌, inl, inr, eqb-true, eq-eqb, arith, if◌then◌else◌}
use Rattle.std.specs.Prelude.{Option, Some, None, Result, Ok, Err}
use Rattle.std.proofs.lemmas.Bool.{cases_Bool, ne_eqb}
use Rattle.host_types.specs.Site.{Site}
use Rattle.host_types.specs.Change.{apply}
use Rattle.common_types.specs.declared.refused.Refused.{Refused}
use Rattle.group_world.specs.World.{World, Phase, Heard, Waits, Reply, Early, phase_in, phase_of, moved_in, others_in, count_waiting}
use Rattle.group_world.specs.Step.{StepResult, Next, most_waiting, listens, ends, draws, settled, at_session, at_hearing, joined, left, changed, answer, failed_answer, without_forms, site_from, taken, flushed_by, all_of}
use Rattle.group_world.specs.declared.event.Event.{Event}
use Rattle.group_world.specs.declared.event.Event.TheVariants.{Join, Bytes, End, Draw, Leave, Admin, Flush}
use Rattle.group_world.specs.declared.event.Outcome.{Outcome}
use Rattle.group_world.specs.Run.{StepBy, IsSplit}
use Rattle.group_world.proofs.Continuing.{faulty_stays, split_stays}

abbrev pub numbers_of : List (ℕ × Phase) → List ℕ
numbers_of sessions = map (λ (s : ℕ × Phase). s.0) sessions

-- it is none of these numbers
abbrev pub IsNew : ℕ → List ℕ → Type 0
IsNew k [] = Unit {0}
IsNew k (n ∷ ns) = ((n == k) ≡ false) × IsNew k ns

-- each number stands once, and is below the next
abbrev pub Numbered : ℕ → List ℕ → Type 0
Numbered next [] = Unit {0}
Numbered next (n ∷ ns) = (n < next) × IsNew n ns × Numbered next ns

abbrev pub IsNumbered : World → Type 0
IsNumbered w = Numbered w.next (numbers_of w.sessions)

-- ---- who has a number

pub nobody : (ss : List (ℕ × Phase)) (k : ℕ) → IsNew k (numbers_of ss) → phase_in ss k ≡ None
nobody [] k new = refl
nobody (s ∷ ss) k new = rw new.0 (nobody ss k new.1)

below_next : (next : ℕ) (ss : List (ℕ × Phase)) (k : ℕ) (p : Phase) → Numbered next (numbers_of ss) → phase_in ss k ≡ Some p → k < next
below_next next [] k p is has = absurd (cc has)
below_next next (s ∷ ss) k p is has =
    elim (cases_Bool (s.0 == k)) [
      | inl e ↦ subst (λ (n : ℕ). n < next) (eqb-true s.0 k e) is.0
      | inr o ↦ below_next next ss k p is.2 (sym (rw o refl) ∙ has)
    ]

above : (next : ℕ) (ns : List ℕ) (k : ℕ) → Numbered next ns → (k < next → ⊥) → IsNew k ns
above next [] k is none = tt
above next (n ∷ ns) k is none = (ne_eqb n k (λ (same : n ≡ k). none (subst (λ (m : ℕ). m < next) same is.0)), above next ns k is.2 none)

-- ---- lists that change

moved_numbers : (ss : List (ℕ × Phase)) (n : ℕ) (p : Phase) → numbers_of (moved_in ss n p) ≡ numbers_of ss
moved_numbers [] n p = refl
moved_numbers (s ∷ ss) n p =
    elim (cases_Bool (s.0 == n)) [
      | inl e ↦ rw e (ap (λ (k : ℕ). k ∷ numbers_of ss) (sym (eqb-true s.0 n e)))
      | inr o ↦ rw o (ap (λ (l : List ℕ). s.0 ∷ l) (moved_numbers ss n p))
    ]

new_gone : (ss : List (ℕ × Phase)) (n k : ℕ) → IsNew k (numbers_of ss) → IsNew k (numbers_of (others_in ss n))
new_gone [] n k new = tt
new_gone (s ∷ ss) n k new = elim (cases_Bool (s.0 == n)) [ inl e ↦ rw e new.1 | inr o ↦ rw o (new.0, new_gone ss n k new.1) ]

gone_numbered : (next : ℕ) (ss : List (ℕ × Phase)) (n : ℕ) → Numbered next (numbers_of ss) → Numbered next (numbers_of (others_in ss n))
gone_numbered next [] n is = tt
gone_numbered next (s ∷ ss) n is = elim (cases_Bool (s.0 == n)) [ inl e ↦ rw e is.2 | inr o ↦ rw o (is.0, new_gone ss n s.0 is.1, gone_numbered next ss n is.2) ]

-- a session that has left is no more there
pub left_is_new : (next : ℕ) (ss : List (ℕ × Phase)) (id : ℕ) → Numbered next (numbers_of ss) → IsNew id (numbers_of (others_in ss id))
left_is_new next [] id is = tt
left_is_new next (s ∷ ss) id is =
    elim (cases_Bool (s.0 == id)) [
      | inl e ↦ rw e (subst (λ (k : ℕ). IsNew k (numbers_of ss)) (eqb-true s.0 id e) is.1)
      | inr o ↦ rw o (o, left_is_new next ss id is.2)
    ]

numbers_behind : (ss ts : List (ℕ × Phase)) → numbers_of (ss ++ ts) ≡ numbers_of ss ++ numbers_of ts
numbers_behind [] ts = refl
numbers_behind (s ∷ ss) ts = ap (λ (l : List ℕ). s.0 ∷ l) (numbers_behind ss ts)

new_behind : (ns : List ℕ) (k m : ℕ) → IsNew k ns → (m == k) ≡ false → IsNew k (ns ++ m ∷ [])
new_behind [] k m new apart = (apart, tt)
new_behind (n ∷ ns) k m new apart = (new.0, new_behind ns k m new.1 apart)

-- one more number, behind all others
one_more : (next later m : ℕ) (ns : List ℕ) → Numbered next ns → IsNew m ns → m < later → next < later + 1 → Numbered later (ns ++ m ∷ [])
one_more next later m [] is new below le = (below, tt, tt)
one_more next later m (n ∷ ns) is new below le =
    (omega (arith, is.0, le), new_behind ns n m is.1 (ne_eqb m n (λ (same : m ≡ n). apart_from n m new.0 (sym same))), one_more next later m ns is.2 new.1 below le)
  where
    apart_from : (a b : ℕ) → (a == b) ≡ false → a ≡ b → ⊥
    apart_from a b off same = let no : true ≡ false = sym (eq-eqb a b same) ∙ off in cc no

-- a session goes behind all others
behind_numbered : (w : World) (id : ℕ) (p q : Phase) → IsNumbered w → phase_of w id ≡ Some q → Numbered w.next (numbers_of (others_in w.sessions id ++ (id, p) ∷ []))
behind_numbered w id p q is has =
    subst (Numbered w.next) (sym (numbers_behind (others_in w.sessions id) ((id, p) ∷ [])))
    (one_more w.next w.next id (numbers_of (others_in w.sessions id)) (gone_numbered w.next w.sessions id is) (left_is_new w.next w.sessions id is) (below_next w.next w.sessions id q is has) (omega arith))

-- ---- a flush

forms_numbers : (s : Site) (ss : List (ℕ × Phase)) → numbers_of (without_forms s ss) ≡ numbers_of ss
forms_numbers s [] = refl
forms_numbers s (x ∷ ss) = ap (λ (l : List ℕ). x.0 ∷ l) (forms_numbers s ss)

taken_numbers : (s : Site) (choices : List Bool) (ss : List (ℕ × Phase)) → numbers_of (taken s choices ss).sessions ≡ numbers_of ss
taken_numbers s [] ss = refl
taken_numbers s (takes ∷ choices) [] = refl
taken_numbers s (true ∷ choices) (x ∷ ss) = ap (λ (l : List ℕ). x.0 ∷ l) (taken_numbers (site_from s x.1) choices ss)
taken_numbers s (false ∷ choices) (x ∷ ss) = ap (λ (l : List ℕ). x.0 ∷ l) (taken_numbers s choices ss)

flushed_numbers : (w : World) (choices : List Bool) → numbers_of (flushed_by w choices).sessions ≡ numbers_of w.sessions
flushed_numbers w choices = taken_numbers w.site choices (without_forms w.site w.sessions) ∙ forms_numbers w.site w.sessions

-- ---- of a step

abbrev NextIs : Next → Type 0
NextIs next = IsNumbered next.world

joined_numbered : (w : World) → IsNumbered w → NextIs (joined w)
unfolding joined
joined_numbered w is =
    elim (cases_Bool (nat_le 32 (length w.sessions))) [
      | inl full ↦ rw full is
      | inr room ↦ elim (cases_Bool (w.next == 2 ^ 64 - 1)) [
        | inl last ↦ rw (room, last) is
        | inr less ↦ rw (room, less) (subst (Numbered (w.next + 1)) (sym (numbers_behind w.sessions ((w.next, Heard []) ∷ [])))
            (one_more w.next (w.next + 1) w.next (numbers_of w.sessions) is (above w.next (numbers_of w.sessions) w.next is (λ (no : w.next < w.next). omega (arith, no))) (omega arith) (omega arith)))
      ]
    ]

moves_numbered : (w : World) (n : ℕ) (p : Phase) → IsNumbered w → Numbered w.next (numbers_of (moved_in w.sessions n p))
moves_numbered w n p is = subst (Numbered w.next) (sym (moved_numbers w.sessions n p)) is

session_numbered : (w : World) (n : ℕ) (f : Phase → StepResult) (o : Option Phase) → IsNumbered w → NextIs (at_session w n f o)
session_numbered w n f None is = is
session_numbered w n f (Some p) is = moves_numbered w n (f p).phase is

settled_numbered : (w : World) (n now : ℕ) (r : StepResult) (next q : Phase) → phase_of w n ≡ Some q → IsNumbered w → NextIs (settled w n now r next)
settled_numbered w n now r (Heard stream) q at is = moves_numbered w n r.phase is
settled_numbered w n now r (Reply rest) q at is = moves_numbered w n r.phase is
settled_numbered w n now r Early q at is = moves_numbered w n r.phase is
settled_numbered w n now r (Waits request since) q at is =
    elim (cases_Bool (nat_le most_waiting (count_waiting w.sessions))) [ inl full ↦ rw full is | inr room ↦ rw room (behind_numbered w n (Waits request since) q is at) ]

hearing_numbered : (w : World) (n now : ℕ) (f : Phase → StepResult) (o : Option Phase) → phase_of w n ≡ o → IsNumbered w → NextIs (at_hearing w n now f o)
hearing_numbered w n now f None at is = is
hearing_numbered w n now f (Some (Heard stream)) at is = settled_numbered w n now (f (Heard stream)) (f (Heard stream)).phase (Heard stream) at is
hearing_numbered w n now f (Some (Waits request since)) at is = moves_numbered w n (f (Waits request since)).phase is
hearing_numbered w n now f (Some (Reply rest)) at is = moves_numbered w n (f (Reply rest)).phase is
hearing_numbered w n now f (Some Early) at is = moves_numbered w n (f Early).phase is

left_numbered : (w : World) (n : ℕ) (o : Option Phase) → IsNumbered w → NextIs (left w n o)
left_numbered w n None is = is
left_numbered w n (Some p) is = gone_numbered w.next w.sessions n is

changed_numbered : (w : World) (r : Result Site Refused) → IsNumbered w → NextIs (changed w r)
changed_numbered w (Ok site) is = is
changed_numbered w (Err refused) is = is

answer_numbered : (w : World) (e : Event) → IsNumbered w → NextIs (answer w e)
answer_numbered w Join is = joined_numbered w is
answer_numbered w (Bytes n piece now) is = hearing_numbered w n now (listens w.grouped w.site now piece) (phase_of w n) refl is
answer_numbered w (End n now) is = hearing_numbered w n now (ends w.grouped w.site now) (phase_of w n) refl is
answer_numbered w (Draw n room) is = session_numbered w n (draws room) (phase_of w n) is
answer_numbered w (Leave n) is = left_numbered w n (phase_of w n) is
answer_numbered w (Admin change now) is = changed_numbered w (apply w.site change now) is
answer_numbered w Flush is = subst (Numbered w.next) (sym (flushed_numbers w (all_of w.sessions))) is

failed_numbered : (w : World) (e : Event) → IsNumbered w → NextIs (failed_answer w e)
failed_numbered w (Leave n) is = left_numbered w n (phase_of w n) is
failed_numbered w Join is = is
failed_numbered w (Bytes n piece now) is = is
failed_numbered w (End n now) is = is
failed_numbered w (Draw n room) is = is
failed_numbered w (Admin change now) is = is
failed_numbered w Flush is = is

by_numbered : (b : Bool) (w : World) (e : Event) → IsNumbered w → NextIs (if b then failed_answer w e else answer w e)
by_numbered true w e is = failed_numbered w e is
by_numbered false w e is = answer_numbered w e is

split_numbered : (w new : World) (e : Event) (o : Outcome) → IsSplit w e o new → IsNumbered w → IsNumbered new
split_numbered w new Flush o split is =
    let same = split_stays w new split.1.0 o split.1.1 in
    rw (same.2, same.1) (subst (Numbered w.next) (sym (flushed_numbers w split.1.0)) is)
split_numbered w new Join o split is = absurd split
split_numbered w new (Bytes n piece now) o split is = absurd split
split_numbered w new (End n now) o split is = absurd split
split_numbered w new (Draw n room) o split is = absurd split
split_numbered w new (Leave n) o split is = absurd split
split_numbered w new (Admin change now) o split is = absurd split

pub step_numbered : (b : Bool) (w new : World) (e : Event) (o : Outcome) → StepBy b w e o new → IsNumbered w → IsNumbered new
step_numbered true w new e o a is = rw a.1 (by_numbered w.failed w e is)
step_numbered false w new e o (inl a) is = rw a.1 (by_numbered w.failed w e is)
step_numbered false w new e o (inr (inl f)) is = (let same = faulty_stays w new e o f in rw (same.0, same.1) is)
step_numbered false w new e o (inr (inr s)) is = split_numbered w new e o s is
