-- Fields and lines from the front.
use Rattle.std.proofs.Common.{◌≡◌, ℕ, suc, ◌+◌, ◌-◌, ◌<◌, ◌≤◌, false, List, [], ◌∷◌, ◌++◌, ◌==◌, length, take, drop, get_or, arith, ap, ◌∙◌, inl, inr, refl, eqb-true}
use Rattle.std.specs.Prelude.{map, if◌then◌else◌}
use Rattle.std.specs.List.{All, slice_split, position_or_len, before_first, after_first}
use Rattle.std.proofs.lemmas.Grind.{common_steps}
use Rattle.std.proofs.lemmas.List.Elements.{All-head, All-tail}
use Rattle.std.proofs.lemmas.List.Sums.{split_at_first, fails_before_first, passes_at_first}
use Rattle.std.proofs.lemmas.List.{take_rest}
use Rattle.std.proofs.lemmas.List.Splits.{slice_split_first}
use Rattle.std.proofs.lemmas.Bool.{cases_Bool}
use Rattle.std.specs.Prelude.{Err}
use Rattle.gophermap.specs.Line.{is_tab, is_lf, is_last, cut, line_of, lines_of, of_fields, up_to_last}
use Rattle.gophermap.specs.declared.fault.LineFault.TheVariants as faults

-- the first field, where a TAB ends it, and what follows
pub first_ends : (xs : List ℕ) (n : ℕ) → n ≡ position_or_len is_tab xs → n < length xs → slice_split is_tab xs ≡ take n xs ∷ slice_split is_tab (take (length xs - (n + 1)) (drop (n + 1) xs))
first_ends xs n place less =
    let found : position_or_len is_tab xs < length xs = omega arith in
    slice_split_first is_tab xs 0 found ∙ (rw (take_rest xs (n + 1), place) refl)

-- a line with no TAB is one field
pub one_field : (xs : List ℕ) → length xs ≤ position_or_len is_tab xs → slice_split is_tab xs ≡ xs ∷ []
one_field [] none = refl
one_field (x ∷ xs) none =
    elim (cases_Bool (x == 9)) [
      | inl tab ↦ absurd (let at : suc (length xs) ≤ 0 = rw tab at none in omega arith)
      | inr other ↦ let past : suc (length xs) ≤ 1 + position_or_len is_tab xs = rw other at none in rw (other, one_field xs (omega arith)) refl
    ]

-- a list has a first field
record Fields (xs : List ℕ) : Type 0 where
  pub first : List ℕ
  pub others : List (List ℕ)
  pub is : slice_split is_tab xs ≡ first ∷ others

fields_of : (xs : List ℕ) → Fields xs
fields_of [] = record { first = []; others = []; is = refl }
fields_of (x ∷ xs) =
    let rest = fields_of xs in
    elim (cases_Bool (x == 9)) [
      | inl tab ↦ record { first = []; others = slice_split is_tab xs; is = rw tab refl }
      | inr other ↦ record { first = x ∷ rest.first; others = rest.others; is = rw (other, rest.is) refl }
    ]

-- behind a fourth TAB there is a fifth field
pub too_many : (a b c d xs : List ℕ) → of_fields (a ∷ b ∷ c ∷ d ∷ slice_split is_tab xs) ≡ Err faults.Fields
too_many a b c d xs = rw ((fields_of xs).is) refl

-- ---- lines of a file

-- a line that its LF ends
ended : (xs ys : List ℕ) → All (λ x. is_lf x ≡ false) xs → cut (xs ++ 10 ∷ ys) ≡ xs ∷ cut ys
ended [] ys none = refl
ended (x ∷ xs) ys none =
    let other : (x == 10) ≡ false = All-head (λ y. is_lf y ≡ false) x xs none in
    rw (other, ended xs ys (All-tail (λ y. is_lf y ≡ false) x xs none)) refl

-- the first line, where an LF ends it, and what follows
pub line_ends : (xs : List ℕ) (n : ℕ) → n ≡ position_or_len is_lf xs → n < length xs → cut xs ≡ take n xs ∷ cut (take (length xs - (n + 1)) (drop (n + 1) xs))
line_ends xs n place less =
    let found : position_or_len is_lf xs < length xs = omega arith in
    let front : All (λ x. is_lf x ≡ false) (before_first is_lf xs) = λ k e m. let k' = fails_before_first is_lf xs k e (grind (arith, common_steps)) in grind (arith, common_steps) in
    let lf : get_or xs (position_or_len is_lf xs) 0 ≡ 10 = eqb-true (get_or xs (position_or_len is_lf xs) 0) 10 (passes_at_first is_lf xs 0 found) in
    ap cut (split_at_first is_lf xs 0 found ∙ ap (λ b. before_first is_lf xs ++ (b ∷ after_first is_lf xs)) lf)
    ∙ ended (before_first is_lf xs) (after_first is_lf xs) front ∙ (rw (take_rest xs (n + 1), place) refl)

-- the last line, which no LF ends
pub last_line : (xs : List ℕ) → 1 ≤ length xs → length xs ≤ position_or_len is_lf xs → cut xs ≡ xs ∷ []
last_line [] some none = absurd (omega arith)
last_line (x ∷ []) some none =
    elim (cases_Bool (x == 10)) [
      | inl lf ↦ absurd (let at : 1 ≤ 0 = rw lf at none in omega arith)
      | inr other ↦ rw other refl
    ]
last_line (x ∷ y ∷ xs) some none =
    elim (cases_Bool (x == 10)) [
      | inl lf ↦ absurd (let at : suc (length (y ∷ xs)) ≤ 0 = rw lf at none in omega arith)
      | inr other ↦ let past : suc (length (y ∷ xs)) ≤ 1 + position_or_len is_lf (y ∷ xs) = rw other at none in rw (other, last_line (y ∷ xs) (omega arith) (omega arith)) refl
    ]

-- the first line of a file, and what is read of the others
pub goes_on : (file first others : List ℕ) → cut file ≡ first ∷ cut others → lines_of file ≡ line_of first ∷ (if is_last (line_of first) then [] else lines_of others)
goes_on file first others e = ap (λ parts. up_to_last (map line_of parts)) e
