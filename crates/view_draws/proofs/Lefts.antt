-- What is left of a reply.
use Rattle.std.proofs.Common.{◌≡◌, ◌+◌, ◌≤◌, ◌<◌, ℕ, List, [], ◌∷◌, ◌++◌, ap, sym, ◌∙◌, inl, inr, take, drop, length, append_assoc, length-append, arith}
use Rattle.std.specs.Prelude.{Option, Some, None}
use Rattle.std.proofs.lemmas.Bool.{cases_Bool}
use Rattle.std.proofs.lemmas.List.{drop-drop, drop-append-le, take-append-drop}
use Rattle.text_writer.specs.Place.{closing, given_from, emitted, after}
use Rattle.text_writer.specs.Pipe.{Piped, will_give, given_behind}
use Rattle.text_writer.specs.declared.place.LinePlace.{LinePlace}

-- what is left of a body, once bytes of its next chunk were taken
pub left_on : (taken m : ℕ) (body chunk more : List ℕ) → drop taken body ≡ chunk ++ more → m ≤ length chunk → drop (taken + m) body ≡ drop m chunk ++ more
left_on taken m body chunk more next le = sym (drop-drop m taken body) ∙ ap (drop m) next ∙ drop-append-le m chunk more le

-- bytes of a chunk were given as they are
pub given_as_bytes : (taken m : ℕ) (body chunk more before given : List ℕ) → drop taken body ≡ chunk ++ more → m ≤ length chunk → given ≡ before ++ take m chunk → given ++ drop (taken + m) body ≡ before ++ drop taken body
given_as_bytes taken m body chunk more before given next le is =
    ap (λ l. l ++ drop (taken + m) body) is
    ∙ append_assoc before (take m chunk) (drop (taken + m) body)
    ∙ ap (λ l. before ++ (take m chunk ++ l)) (left_on taken m body chunk more next le)
    ∙ ap (λ l. before ++ l) (sym (append_assoc (take m chunk) (drop m chunk) more))
    ∙ ap (λ l. before ++ (l ++ more)) (take-append-drop m chunk)
    ∙ ap (λ l. before ++ l) (sym next)

-- bytes of a chunk were given to a pipe
pub given_as_text : (taken m : ℕ) (body chunk more before given : List ℕ) (old new : Piped) → drop taken body ≡ chunk ++ more → m ≤ length chunk → given ++ will_give new (drop m chunk ++ more) ≡ before ++ will_give old (chunk ++ more) →
    given ++ will_give new (drop (taken + m) body) ≡ before ++ will_give old (drop taken body)
given_as_text taken m body chunk more before given old new next le is =
    ap (λ l. given ++ will_give new l) (left_on taken m body chunk more next le)
    ∙ is
    ∙ ap (λ l. before ++ will_give old l) (sym next)

-- bytes of the head were given
pub given_of_head : (drawn m : ℕ) (head left given : List ℕ) → given ≡ take m (drop drawn head) → given ++ (drop (drawn + m) head ++ left) ≡ drop drawn head ++ left
given_of_head drawn m head left given is =
    ap (λ l. l ++ (drop (drawn + m) head ++ left)) is
    ∙ ap (λ l. take m (drop drawn head) ++ (l ++ left)) (sym (drop-drop m drawn head))
    ∙ sym (append_assoc (take m (drop drawn head)) (drop m (drop drawn head)) left)
    ∙ ap (λ l. l ++ left) (take-append-drop m (drop drawn head))

-- the end of a body gives some bytes
closing_some : (place : LinePlace) → 0 < length (closing place)
closing_some place = elim (cases_Bool place.held) [
  | inl held ↦ rw held (omega arith)
  | inr free ↦ elim (cases_Bool place.at_start) [ inl start ↦ rw (free, start) (omega arith) | inr inside ↦ rw (free, inside) (omega arith) ]
]

from_some : (place : LinePlace) (rest : List ℕ) → 0 < length (given_from place rest)
from_some place [] = closing_some place
from_some place (b ∷ bs) = omega (arith, length-append (emitted place b) (given_from (after place b) bs), from_some (after place b) bs)

-- A pipe that has nothing left to give has had its end, so that it gives nothing for more bytes.
behind_same : (place : Option LinePlace) (ready xs ys : List ℕ) → ready ++ given_behind place xs ≡ [] → ready ++ given_behind place ys ≡ []
behind_same None ready xs ys none = none
behind_same (Some place) ready xs ys none = absurd (omega (arith, ap length none, length-append ready (given_from place xs), from_some place xs))

pub none_for_any : (pipe : Piped) (xs ys : List ℕ) → will_give pipe xs ≡ [] → will_give pipe ys ≡ []
none_for_any pipe xs ys none = behind_same pipe.place pipe.ready xs ys none
