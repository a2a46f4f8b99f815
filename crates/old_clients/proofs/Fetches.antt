-- Rewritten lines by the grammar of request lines.
use Rattle.std.proofs.Common.{◌≡◌, ℕ, ◌+◌, ◌<◌, ◌≤◌, suc, Bool, true, false, List, [], ◌∷◌, ◌++◌, ◌==◌, Some, None, ap, sym, ◌∙◌, inl, inr, refl, take, drop, length, arith, append_assoc, length-append}
use Rattle.std.specs.Prelude.{Ok, codes}
use Rattle.std.specs.List.{after_first, before_first, list_any, position_or_len, slice_split}
use Rattle.std.proofs.lemmas.Bool.{and_parts, cases_Bool, le-ltb, or_parts}
use Rattle.std.proofs.lemmas.List.{take_at, drop_at, take-append-drop}
use Rattle.std.proofs.lemmas.List.Folds.{list_any-append}
use Rattle.std.proofs.lemmas.List.Splits.{slice_split_first}
use Rattle.request_reader.specs.Request.{Fetch}
use Rattle.request_reader.specs.RequestLine.{behind_selector, is_forbidden, is_plus_field, is_tab, parsed_line, without_empty_end, without_empty_front}
use Rattle.old_clients.specs.AdaptedRequest.{adapted_fields, has_data, has_words, is_old, is_words}
use Rattle.old_clients.specs.Fetches.{fetch_of}

lacks_take : (p : ℕ → Bool) (n : ℕ) (xs : List ℕ) → list_any p xs ≡ false → list_any p (take n xs) ≡ false
lacks_take p n xs none = (or_parts (list_any p (take n xs)) (list_any p (drop n xs)) (sym (list_any-append p (take n xs) (drop n xs)) ∙ ap (list_any p) (take-append-drop n xs) ∙ none)).0

lacks_drop : (p : ℕ → Bool) (n : ℕ) (xs : List ℕ) → list_any p xs ≡ false → list_any p (drop n xs) ≡ false
lacks_drop p n xs none = (or_parts (list_any p (take n xs)) (list_any p (drop n xs)) (sym (list_any-append p (take n xs) (drop n xs)) ∙ ap (list_any p) (take-append-drop n xs) ∙ none)).1

-- the first field has no TAB, so it is found again in front of another rest
place_again : (xs rest : List ℕ) → position_or_len is_tab (before_first is_tab xs ++ 9 ∷ rest) ≡ length (before_first is_tab xs)
place_again [] rest = refl
place_again (x ∷ xs) rest = elim (cases_Bool (x == 9)) [
  | inl e ↦ rw e refl
  | inr n ↦ (let more : 1 + position_or_len is_tab xs ≡ suc (position_or_len is_tab xs) = omega arith in rw (n, more, n, place_again xs rest) (omega arith))
]

before_again : (xs rest : List ℕ) → before_first is_tab (before_first is_tab xs ++ 9 ∷ rest) ≡ before_first is_tab xs
before_again xs rest = ap (λ n. take n (before_first is_tab xs ++ 9 ∷ rest)) (place_again xs rest) ∙ take_at (before_first is_tab xs) (9 ∷ rest) _ refl

after_again : (xs rest : List ℕ) → after_first is_tab (before_first is_tab xs ++ 9 ∷ rest) ≡ rest
after_again xs rest =
    ap (λ n. drop (n + 1) (before_first is_tab xs ++ 9 ∷ rest)) (place_again xs rest)
    ∙ ap (drop (length (before_first is_tab xs) + 1)) (sym (append_assoc (before_first is_tab xs) (9 ∷ []) rest))
    ∙ drop_at (before_first is_tab xs ++ 9 ∷ []) rest _ (length-append (before_first is_tab xs) (9 ∷ []))

split_again : (xs rest : List ℕ) → slice_split is_tab (before_first is_tab xs ++ 9 ∷ rest) ≡ before_first is_tab xs ∷ slice_split is_tab rest
split_again xs rest =
    let line = before_first is_tab xs ++ 9 ∷ rest in
    let less : position_or_len is_tab line < length line = omega (arith, place_again xs rest, length-append (before_first is_tab xs) (9 ∷ rest)) in
    slice_split_first is_tab line 0 less ∙ ap (λ l. l ∷ slice_split is_tab (after_first is_tab line)) (before_again xs rest) ∙ ap (λ l. before_first is_tab xs ∷ slice_split is_tab l) (after_again xs rest)

-- what is read of a selector and what stands behind it
selector_read : (xs rest : List ℕ) → list_any is_forbidden (before_first is_tab xs) ≡ false → list_any is_forbidden rest ≡ false → length (before_first is_tab xs) ≤ 255 →
    parsed_line (before_first is_tab xs ++ 9 ∷ rest) ≡ behind_selector (before_first is_tab xs) (without_empty_front (without_empty_end (slice_split is_tab rest)))
unfolding parsed_line
selector_read xs rest first second short =
    let clean : list_any is_forbidden (before_first is_tab xs ++ 9 ∷ rest) ≡ false = list_any-append is_forbidden (before_first is_tab xs) (9 ∷ rest) ∙ rw (first, second) refl in
    rw (clean, before_again xs rest, after_again xs rest, le-ltb 255 (length (before_first is_tab xs)) short) refl

-- search words in front of a `+`
words_read : (selector words : List ℕ) → is_words words ≡ true →
    behind_selector selector (without_empty_front (without_empty_end (words ∷ (43 ∷ []) ∷ []))) ≡ Ok (record { selector = selector; search = Some words; plus = Some (Fetch None); has_data = false })
words_read selector [] none = absurd (cc none)
words_read selector (w ∷ ws) words = elim (cases_Bool (is_plus_field (w ∷ ws))) [
  | inl plus ↦ (let other = rw plus at words in absurd (cc other))
  | inr other ↦ rw other refl
]

pub line_fetches : (line : List ℕ) → is_old line ≡ true → list_any is_forbidden line ≡ false → length (before_first is_tab line) ≤ 255 → parsed_line (adapted_fields line) ≡ Ok (fetch_of line)
line_fetches line old clean short =
    let first = before_first is_tab line in
    let part = after_first is_tab line in
    let words = before_first is_tab part in
    let first_clean : list_any is_forbidden first ≡ false = lacks_take is_forbidden _ line clean in
    let words_clean : list_any is_forbidden words ≡ false = lacks_take is_forbidden _ part (lacks_drop is_forbidden _ line clean) in
    elim (cases_Bool (has_data line)) [
      | inl flag ↦ rw flag (selector_read line (codes "+\t1") first_clean refl short)
      | inr other ↦ (
          let has : has_words line ≡ true = sym (rw other refl) ∙ old in
          let are : is_words words ≡ true = (and_parts (is_words words) _ has).0 in
          let rest_clean : list_any is_forbidden (words ++ codes "\t+") ≡ false = list_any-append is_forbidden words (codes "\t+") ∙ rw words_clean refl in
          let whole : first ++ codes "\t" ++ words ++ codes "\t+" ≡ first ++ 9 ∷ (words ++ codes "\t+") =
          append_assoc (first ++ codes "\t") words (codes "\t+") ∙ append_assoc first (codes "\t") (words ++ codes "\t+") in
          rw (other, has) (
          ap parsed_line whole
          ∙ selector_read line (words ++ codes "\t+") first_clean rest_clean short
          ∙ ap (λ fields. behind_selector first (without_empty_front (without_empty_end fields))) (split_again part (43 ∷ []))
          ∙ words_read first words are
          ))
    ]
