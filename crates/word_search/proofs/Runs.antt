-- Bytes are cut into runs from their front.
use Rattle.std.proofs.Common.{◌≡◌, ℕ, zero, suc, ◌+◌, ◌-◌, ◌<◌, ◌≤◌, length, length-drop, take, drop, Bool, true, false, List, [], ◌∷◌, ◌++◌, ap, sym, subst, ◌∙◌, inl, inr, refl, arith}
use Rattle.std.specs.Prelude.{◌||◌, not, map, filter, slice_index_or}
use Rattle.std.specs.List.{list_any, slice_split}
use Rattle.std.specs.Char.{is_ascii_alphanumeric}
use Rattle.std.proofs.lemmas.Bool.{cases_Bool}
use Rattle.std.proofs.lemmas.List.{append-nil, append_assoc, take_all}
use Rattle.std.proofs.lemmas.List.Splits.{slice_split-cons_yes, slice_split-cons_no}
use Rattle.host_types.specs.Words.{is_gap, is_some_run, word_of, words_in}

left_false : (a b : Bool) → a || b ≡ false → a ≡ false
left_false false b h = refl
left_false true b h = h

right_false : (a b : Bool) → a || b ≡ false → b ≡ false
right_false false b h = h
right_false true b h = absurd (cc h)

split_ended : (run rest : List ℕ) (b : ℕ) → list_any is_gap run ≡ false → is_gap b ≡ true → slice_split is_gap (run ++ b ∷ rest) ≡ run ∷ slice_split is_gap rest
split_ended [] rest b none gap = slice_split-cons_yes is_gap b rest gap
split_ended (x ∷ run) rest b none gap =
    slice_split-cons_no is_gap x (run ++ b ∷ rest) (left_false (is_gap x) (list_any is_gap run) none)
    ∙ rw (split_ended run rest b (right_false (is_gap x) (list_any is_gap run) none) gap) refl

split_unended : (run : List ℕ) → list_any is_gap run ≡ false → slice_split is_gap run ≡ run ∷ []
split_unended [] none = refl
split_unended (x ∷ run) none =
    slice_split-cons_no is_gap x run (left_false (is_gap x) (list_any is_gap run) none)
    ∙ rw (split_unended run (right_false (is_gap x) (list_any is_gap run) none)) refl

-- the words of runs
abbrev as_words : List (List ℕ) → List (List ℕ)
as_words runs = map word_of (filter is_some_run runs)

first_word : (run : List ℕ) (runs : List (List ℕ)) → as_words (run ∷ []) ++ as_words runs ≡ as_words (run ∷ runs)
first_word run runs =
    elim (cases_Bool (is_some_run run)) [
      | inl some ↦ rw some refl
      | inr none ↦ rw none refl
    ]

-- a gap
pub cut_here : (words : List (List ℕ)) (run rest : List ℕ) (b : ℕ) → list_any is_gap run ≡ false → is_ascii_alphanumeric b ≡ false →
    (words ++ map word_of (filter is_some_run (run ∷ []))) ++ words_in rest ≡ words ++ words_in (run ++ b ∷ rest)
cut_here words run rest b none gap =
    append_assoc words (as_words (run ∷ [])) (words_in rest)
    ∙ ap (λ l. words ++ l) (first_word run (slice_split is_gap rest) ∙ ap as_words (sym (split_ended run rest b none (ap not gap))))

-- ---- the first run

cut_there : (bytes : List ℕ) (k : ℕ) → k < length bytes → take k bytes ++ slice_index_or bytes k 0 ∷ drop (suc k) bytes ≡ bytes
cut_there [] k less = absurd (omega (arith, less))
cut_there (x ∷ bytes) zero less = refl
cut_there (x ∷ bytes) (suc k) less = ap (λ l. x ∷ l) (cut_there bytes k (omega (arith, less)))

-- It ends at a byte that is neither a letter nor a digit.
pub first_cut : (bytes rest : List ℕ) (k : ℕ) → k < length bytes → rest ≡ take (length bytes - (k + 1)) (drop (k + 1) bytes) → list_any is_gap (take k bytes) ≡ false → is_ascii_alphanumeric (slice_index_or bytes k 0) ≡ false →
    map word_of (filter is_some_run (take k bytes ∷ [])) ++ words_in rest ≡ words_in bytes
first_cut bytes rest k less behind none gap =
    let next : k + 1 ≡ suc k = omega arith in
    let whole = take_all (length bytes - (k + 1)) (drop (k + 1) bytes) (omega (arith, length-drop (k + 1) bytes)) in
    ap (λ l. as_words (take k bytes ∷ []) ++ words_in l) (behind ∙ whole ∙ ap (λ (n : ℕ). drop n bytes) next)
    ∙ cut_here [] (take k bytes) (drop (suc k) bytes) (slice_index_or bytes k 0) none gap ∙ ap words_in (cut_there bytes k less)

-- One byte more is none.
gap_not_yet : (bytes : List ℕ) (k b : ℕ) → k < length bytes → b ≡ slice_index_or bytes k b → list_any is_gap (take k bytes) ≡ false → is_ascii_alphanumeric b ≡ true → list_any is_gap (take (suc k) bytes) ≡ false
gap_not_yet [] k b less is none letter = absurd (omega (arith, less))
gap_not_yet (x ∷ bytes) zero b less is none letter = rw (sym is, letter) refl
gap_not_yet (x ∷ bytes) (suc k) b less is none letter =
    rw (left_false (is_gap x) (list_any is_gap (take k bytes)) none) (gap_not_yet bytes k b (omega (arith, less)) is (right_false (is_gap x) (list_any is_gap (take k bytes)) none) letter)

pub still_no_gap : (bytes : List ℕ) (k b : ℕ) → k < length bytes → b ≡ slice_index_or bytes k b → list_any is_gap (take k bytes) ≡ false → is_ascii_alphanumeric b ≡ true → list_any is_gap (take (k + 1) bytes) ≡ false
still_no_gap bytes k b less is none letter =
    let next : k + 1 ≡ suc k = omega arith in
    ap (λ (n : ℕ). list_any is_gap (take n bytes)) next ∙ gap_not_yet bytes k b less is none letter

-- There is no such byte.
pub one_run : (bytes : List ℕ) (k : ℕ) → length bytes ≤ k → list_any is_gap (take k bytes) ≡ false → map word_of (filter is_some_run (bytes ∷ [])) ++ words_in [] ≡ words_in bytes
one_run bytes k all none =
    let gapless : list_any is_gap bytes ≡ false = subst (λ l. list_any is_gap l ≡ false) (take_all k bytes all) none in
    append-nil (as_words (bytes ∷ [])) ∙ ap as_words (sym (split_unended bytes gapless))

pub whole_run : (run : List ℕ) → length run ≤ 32 → run ≡ take 32 run
whole_run run few = sym (take_all 32 run few)

-- ---- run by run

-- One run more has ended.
pub run_on : (words more all : List (List ℕ)) (run rest left : List ℕ) → more ≡ words ++ as_words (run ∷ []) → as_words (run ∷ []) ++ words_in rest ≡ words_in left → words ++ words_in left ≡ all → more ++ words_in rest ≡ all
run_on words more all run rest left ended cut so_far =
    ap (λ l. l ++ words_in rest) ended ∙ append_assoc words (as_words (run ∷ [])) (words_in rest) ∙ ap (λ l. words ++ l) cut ∙ so_far

pub none_left : (words all : List (List ℕ)) (left : List ℕ) → length left ≡ 0 → words ++ words_in left ≡ all → words ≡ all
none_left words all [] none so_far = sym (append-nil words) ∙ so_far
none_left words all (b ∷ left) none so_far = absurd (cc none)
