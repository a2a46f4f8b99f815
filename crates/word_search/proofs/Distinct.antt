-- Words that are gathered one by one are the first different ones.
use Rattle.std.proofs.Common.{◌≡◌, ℕ, ◌<◌, ◌≤◌, Bool, true, false, List, [], ◌∷◌, ◌++◌, length, take, arith, ap, sym, subst, ◌∙◌, inl, inr, refl}
use Rattle.std.specs.Prelude.{◌||◌, ◌&&◌, not, nat_lt, bytes_eq, map, filter, if◌then◌else◌}
use Rattle.std.proofs.lemmas.Bool.{cases_Bool, cases_lt, le-ltb, lt-ltb}
use Rattle.std.proofs.lemmas.List.{append-nil, append_assoc, length-append, length-take-le, take_all, take-append-le}
use Rattle.std.proofs.lemmas.List.Elements.{filter-append}
use Rattle.std.proofs.lemmas.Slice.Eq.{bytes_eq-Decides}
use Rattle.host_types.specs.Words.{is_among, distinct, first_words, word_of, words_in, is_some_run}
use Rattle.word_search.specs.Gathered.{added, gathered}

-- the words that differ from one
abbrev others_than : List ℕ → List ℕ → Bool
others_than word other = not (bytes_eq word other)

same_turned : (x w : List ℕ) → bytes_eq x w ≡ true → bytes_eq w x ≡ true
same_turned x w h = (bytes_eq-Decides w x).1 (sym ((bytes_eq-Decides x w).0 h))

other_turned : (x w : List ℕ) → bytes_eq w x ≡ false → bytes_eq x w ≡ false
other_turned x w h = elim (cases_Bool (bytes_eq x w)) [
  | inl same ↦ (let k : true ≡ false = sym (same_turned x w same) ∙ h in absurd (cc k))
  | inr other ↦ other
]

-- a word that is not x stays where x goes
still_among : (x w : List ℕ) (words : List (List ℕ)) → bytes_eq w x ≡ false → is_among (filter (others_than x) words) w ≡ is_among words w
still_among x w [] other = refl
still_among x w (y ∷ words) other =
    elim (cases_Bool (bytes_eq x y)) [
      | inl same ↦
          let is : x ≡ y = (bytes_eq-Decides x y).0 same in
          let not_y : bytes_eq w y ≡ false = subst (λ (v : List ℕ). bytes_eq w v ≡ false) is other in
          rw (same, not_y) (still_among x w words other)
      | inr differs ↦ rw differs (ap (λ b. bytes_eq w y || b) (still_among x w words other))
    ]

-- one more word
abbrev with_word : List (List ℕ) → List ℕ → List (List ℕ)
with_word words w = if is_among words w then words else words ++ w ∷ []

step : (x w : List ℕ) (words : List (List ℕ)) → x ∷ filter (others_than x) (with_word words w) ≡ with_word (x ∷ filter (others_than x) words) w
step x w words =
    elim (cases_Bool (bytes_eq w x)) [
      | inl same ↦
          let gone : others_than x w ≡ false = ap not (same_turned w x same) in
          elim (cases_Bool (is_among words w)) [
            | inl among ↦ rw (among, same) refl
            | inr new ↦
                let left : filter (others_than x) (words ++ w ∷ []) ≡ filter (others_than x) words = filter-append (others_than x) words (w ∷ []) ∙ rw (same_turned w x same) (append-nil (filter (others_than x) words)) in
                rw (new, same) (ap (λ l. x ∷ l) left)
          ]
      | inr other ↦
          let stays = still_among x w words other in
          elim (cases_Bool (is_among words w)) [
            | inl among ↦ rw (among, other, stays ∙ among) refl
            | inr new ↦
                let left : filter (others_than x) (words ++ w ∷ []) ≡ filter (others_than x) words ++ w ∷ [] = filter-append (others_than x) words (w ∷ []) ∙ rw (other_turned x w other) refl in
                rw (new, other, stays ∙ new) (ap (λ l. x ∷ l) left)
          ]
    ]

distinct_push : (words : List (List ℕ)) (w : List ℕ) → distinct (words ++ w ∷ []) ≡ with_word (distinct words) w
distinct_push [] w = refl
distinct_push (x ∷ words) w = ap (λ d. x ∷ filter (others_than x) d) (distinct_push words w) ∙ step x w (distinct words)

take_more_same : (words : List (List ℕ)) (w : List ℕ) → 200 ≤ length words → take 200 (with_word words w) ≡ take 200 words
take_more_same words w many =
    elim (cases_Bool (is_among words w)) [
      | inl among ↦ rw among refl
      | inr new ↦ rw new (take-append-le 200 words (w ∷ []) many)
    ]

turned : (b : Bool) (x y : List (List ℕ)) → (if true && not b then y else x) ≡ (if b then x else y)
turned true x y = refl
turned false x y = refl

within : (words : List (List ℕ)) (w : List ℕ) → length words < 200 → length (with_word words w) ≤ 200
within words w few =
    elim (cases_Bool (is_among words w)) [
      | inl among ↦ rw among (omega (arith, few))
      | inr new ↦ rw new (omega (arith, few, length-append words (w ∷ [])))
    ]

one_more : (words : List (List ℕ)) (w : List ℕ) → added (take 200 (distinct words)) w ≡ take 200 (distinct (words ++ w ∷ []))
unfolding added
one_more words w =
    let d = distinct words in
    elim (cases_lt (length d) 200) [
      | inl few ↦
          let whole : take 200 d ≡ d = take_all 200 d (omega (arith, few)) in
          let room : nat_lt (length d) 200 ≡ true = lt-ltb (length d) 200 few in
          let back : take 200 (with_word d w) ≡ with_word d w = take_all 200 (with_word d w) (within d w few) in
          rw (whole) (rw (room) (turned (is_among d w) d (d ++ w ∷ [])) ∙ sym back ∙ ap (λ l. take 200 l) (sym (distinct_push words w)))
      | inr many ↦
          let size : length (take 200 d) ≡ 200 = length-take-le 200 d many in
          let no_room : nat_lt (length (take 200 d)) 200 ≡ false = le-ltb (length (take 200 d)) 200 (omega (arith, size)) in
          rw no_room (sym (take_more_same d w many) ∙ ap (λ l. take 200 l) (sym (distinct_push words w)))
    ]

all_more : (words more : List (List ℕ)) → gathered (take 200 (distinct words)) more ≡ take 200 (distinct (words ++ more))
all_more words [] = ap (λ l. take 200 (distinct l)) (sym (append-nil words))
all_more words (w ∷ more) =
    ap (λ l. gathered l more) (one_more words w) ∙ all_more (words ++ w ∷ []) more ∙ ap (λ l. take 200 (distinct l)) (append_assoc words (w ∷ []) more)

-- ---- words that are gathered run by run

pub gathered_on : (words xs ys : List (List ℕ)) → gathered (gathered words xs) ys ≡ gathered words (xs ++ ys)
gathered_on words [] ys = refl
gathered_on words (x ∷ xs) ys = gathered_on (added words x) xs ys

-- One run more is gathered.
pub gathered_run : (words more all : List (List ℕ)) (run rest left : List ℕ) → more ≡ gathered words (map word_of (filter is_some_run (run ∷ []))) → map word_of (filter is_some_run (run ∷ [])) ++ words_in rest ≡ words_in left → gathered words (words_in left) ≡ all →
    gathered more (words_in rest) ≡ all
gathered_run words more all run rest left ended cut so_far =
    ap (λ l. gathered l (words_in rest)) ended ∙ gathered_on words (map word_of (filter is_some_run (run ∷ []))) (words_in rest) ∙ ap (gathered words) cut ∙ so_far

pub none_to_gather : (words all : List (List ℕ)) (left : List ℕ) → length left ≡ 0 → gathered words (words_in left) ≡ all → words ≡ all
none_to_gather words all [] none so_far = so_far
none_to_gather words all (b ∷ left) none so_far = absurd (cc none)

-- three lists of words, one after another
pub gathered_thrice : (a b c : List (List ℕ)) → gathered (gathered (gathered [] a) b) c ≡ first_words (a ++ b ++ c)
unfolding first_words
gathered_thrice a b c =
    ap (λ l. gathered (gathered l b) c) (all_more [] a) ∙ ap (λ l. gathered l c) (all_more a b) ∙ all_more (a ++ b) c
