-- Pipes: what calls give, and when nothing is left.
use Rattle.std.proofs.Common.{◌≡◌, ℕ, ◌+◌, ◌-◌, ◌<◌, ◌≤◌, suc, List, [], ◌∷◌, ◌++◌, ap, sym, ◌∙◌, inl, inr, take, drop, length, get_or, drop-cons, add-one, append_assoc, arith}
use Rattle.std.specs.Prelude.{Some}
use Rattle.std.proofs.lemmas.Bool.{cases_Bool}
use Rattle.std.proofs.lemmas.List.{take-append-drop, drop-drop, drop-append-le}
use Rattle.text_writer.proofs.Runs.{run_given}
use Rattle.text_writer.specs.Place.{closing, given_from, run_length, behind_run}
use Rattle.text_writer.specs.Pipe.{Piped, will_give, given_behind, PassesText}
use Rattle.text_writer.specs.declared.place.LinePlace.{LinePlace}

-- bytes that are ready were given, and the place stayed
pub given_on : (part given : List ℕ) (old new : Piped) → given ++ new.ready ≡ part ++ old.ready → new.place ≡ old.place → (rest : List ℕ) → given ++ will_give new rest ≡ part ++ will_give old rest
given_on part given old new moved stayed rest =
    sym (append_assoc given new.ready (given_behind new.place rest))
    ∙ ap (λ l. l ++ given_behind new.place rest) moved
    ∙ ap (λ place. (part ++ old.ready) ++ given_behind place rest) stayed
    ∙ append_assoc part old.ready (given_behind old.place rest)

-- one byte more of the chunk
pub byte_passed : (chunk part given : List ℕ) (taken byte : ℕ) (old now mid new : Piped) → taken < length chunk → byte ≡ get_or chunk taken 0 → PassesText old chunk taken part now →
    ((rest : List ℕ) → will_give mid rest ≡ will_give now (byte ∷ rest)) → given ++ new.ready ≡ part ++ mid.ready → new.place ≡ mid.place → PassesText old chunk (taken + 1) given new
byte_passed chunk part given taken byte old now mid new below is passes whole moved stayed more =
    let next : byte ∷ drop (taken + 1) chunk ≡ drop taken chunk = ap (λ n. byte ∷ drop n chunk) (add-one taken) ∙ ap (λ b. b ∷ drop (suc taken) chunk) is ∙ sym (drop-cons chunk taken 0 below) in
    given_on part given mid new moved stayed (drop (taken + 1) chunk ++ more)
    ∙ ap (λ l. part ++ l) (whole (drop (taken + 1) chunk ++ more))
    ∙ ap (λ l. part ++ will_give now (l ++ more)) next
    ∙ passes more

-- what stands behind a place stands behind each later one
pub unchanged_on : (n m : ℕ) (xs ys : List ℕ) → n ≤ m → drop n xs ≡ drop n ys → drop m xs ≡ drop m ys
unchanged_on n m xs ys onward same =
    let split : m ≡ n + (m - n) = omega (arith, onward) in
    ap (λ k. drop k xs) split ∙ sym (drop-drop (m - n) n xs) ∙ ap (drop (m - n)) same ∙ drop-drop (m - n) n ys ∙ sym (ap (λ k. drop k ys) split)

-- a run at the front of a chunk, and what is given behind it
pub run_on : (place : LinePlace) (chunk front more : List ℕ) (k run : ℕ) → front ≡ take k chunk → run ≡ run_length place front → run ≤ length front → given_from place (chunk ++ more) ≡ take run front ++ given_from (behind_run place run) (drop run chunk ++ more)
run_on place chunk front more k run is so_many within =
    let halves : chunk ≡ front ++ drop k chunk = sym (take-append-drop k chunk) ∙ ap (λ l. l ++ drop k chunk) (sym is) in
    let later : drop run chunk ++ more ≡ drop run front ++ (drop k chunk ++ more) =
    ap (λ l. drop run l ++ more) halves ∙ ap (λ l. l ++ more) (drop-append-le run front (drop k chunk) within) ∙ append_assoc (drop run front) (drop k chunk) more in
    ap (λ l. given_from place (l ++ more)) halves
    ∙ ap (given_from place) (append_assoc front (drop k chunk) more)
    ∙ run_given place front (drop k chunk ++ more)
    ∙ ap (λ n. take n front ++ given_from (behind_run place n) (drop n front ++ (drop k chunk ++ more))) (sym so_many)
    ∙ ap (λ l. take run front ++ given_from (behind_run place run) l) (sym later)

closing_gives : (place : LinePlace) → closing place ≡ [] → ⊥
closing_gives place none = elim (cases_Bool place.held) [
  | inl held ↦ (let k = rw held at none in absurd (cc k))
  | inr free ↦ elim (cases_Bool place.at_start) [ inl start ↦ (let k = rw (free, start) at none in absurd (cc k)) | inr inside ↦ (let k = rw (free, inside) at none in absurd (cc k)) ]
]

second_is_none : (xs ys : List ℕ) → xs ++ ys ≡ [] → ys ≡ []
second_is_none [] ys none = none
second_is_none (x ∷ xs) ys none = absurd (cc none)

-- before the end of the body something is left
pub some_is_left : (pipe : Piped) (place : LinePlace) → pipe.place ≡ Some place → will_give pipe [] ≡ [] → ⊥
some_is_left pipe place some none =
    closing_gives place (second_is_none pipe.ready (closing place) (ap (λ p. pipe.ready ++ given_behind p []) (sym some) ∙ none))

-- a run at the front of a chunk was given
pub run_passed : (place : LinePlace) (chunk front old new : List ℕ) (at k run : ℕ) → front ≡ take k chunk → run ≡ run_length place front → run ≤ length front →
    take (at + run) new ≡ take at old ++ take run front → (more : List ℕ) → take (at + run) new ++ given_from (behind_run place run) (drop run chunk ++ more) ≡ take at old ++ given_from place (chunk ++ more)
run_passed place chunk front old new at k run is so_many within given more =
    ap (λ l. l ++ given_from (behind_run place run) (drop run chunk ++ more)) given
    ∙ append_assoc (take at old) (take run front) (given_from (behind_run place run) (drop run chunk ++ more))
    ∙ ap (λ l. take at old ++ l) (sym (run_on place chunk front more k run is so_many within))

-- more lines of the same bytes
pub lines_on : (p q r : LinePlace) (rest behind part mid given : List ℕ) (taken more_taken : ℕ) → behind ≡ drop taken rest →
    ((more : List ℕ) → mid ++ given_from q (drop taken rest ++ more) ≡ part ++ given_from p (rest ++ more)) →
    ((more : List ℕ) → given ++ given_from r (drop more_taken behind ++ more) ≡ mid ++ given_from q (behind ++ more)) → (more : List ℕ) → given ++ given_from r (drop (taken + more_taken) rest ++ more) ≡ part ++ given_from p (rest ++ more)
lines_on p q r rest behind part mid given taken more_taken is so_far line more =
    ap (λ l. given ++ given_from r (l ++ more)) (sym (drop-drop more_taken taken rest) ∙ ap (drop more_taken) (sym is))
    ∙ line more
    ∙ ap (λ l. mid ++ given_from q (l ++ more)) is
    ∙ so_far more
