-- The words of an index after a change.
use Rattle.std.proofs.Common.{◌≡◌, ℕ, Bool, true, false, List, [], ◌∷◌, ◌∙◌, inl, inr, refl, subst}
use Rattle.std.specs.Prelude.{◌||◌, ◌&&◌, not, bytes_eq}
use Rattle.std.proofs.lemmas.Bool.{cases_Bool}
use Rattle.std.proofs.lemmas.Slice.Eq.{bytes_eq-Decides}
use Rattle.host_types.specs.Words.{is_among}
use Rattle.word_search.specs.WordChange.{dropped}

both_false : (b : Bool) → b && not true ≡ false
both_false true = refl
both_false false = refl

-- a word is dropped where it is an old one that the new ones lack
pub is_dropped : (old new : List (List ℕ)) (word : List ℕ) → is_among (dropped old new) word ≡ (is_among old word && not (is_among new word))
is_dropped [] new word = refl
is_dropped (x ∷ old) new word =
    elim (cases_Bool (bytes_eq word x)) [
      | inl same ↦
          let is : word ≡ x = (bytes_eq-Decides word x).0 same in
          elim (cases_Bool (is_among new word)) [
            | inl among ↦
                let there : is_among new x ≡ true = subst (λ (w : List ℕ). is_among new w ≡ true) is among in
                rw (there, same, among) (is_dropped old new word ∙ rw among (both_false (is_among old word)))
            | inr lacks ↦
                let gone : is_among new x ≡ false = subst (λ (w : List ℕ). is_among new w ≡ false) is lacks in
                rw (gone, same, lacks) refl
          ]
      | inr other ↦
          elim (cases_Bool (is_among new x)) [
            | inl there ↦ rw (there, other) (is_dropped old new word)
            | inr gone ↦ rw (gone, other) (is_dropped old new word)
          ]
    ]

decide : (o n : Bool) → (o && not (o && not n)) || (n && not o) ≡ n
decide true true = refl
decide true false = refl
decide false true = refl
decide false false = refl

pub words_after : (old new : List (List ℕ)) (word : List ℕ) → (is_among old word && not (is_among (dropped old new) word)) || is_among (dropped new old) word ≡ is_among new word
words_after old new word = rw (is_dropped old new word, is_dropped new old word) (decide (is_among old word) (is_among new word))
