-- When two words are the same.
use Rattle.std.proofs.Common.{◌≡◌, ◌≢◌, ℕ, zero, suc, ◌<◌, length, true, false, List, [], ◌∷◌, arith, ap, sym, ◌∙◌, inl, inr, refl}
use Rattle.std.specs.Prelude.{bytes_eq, slice_index_or}
use Rattle.std.proofs.lemmas.Bool.{cases_Bool}
use Rattle.std.proofs.lemmas.Slice.Eq.{bytes_eq-Decides}

pub other_length : (one other : List ℕ) → length one ≢ length other → bytes_eq one other ≡ false
other_length one other differ = elim (cases_Bool (bytes_eq one other)) [
  | inl same ↦ absurd (differ (ap (λ (l : List ℕ). length l) ((bytes_eq-Decides one other).0 same)))
  | inr other_one ↦ other_one
]

pub both_empty : (one other : List ℕ) → length one ≡ length other → length one ≡ 0 → bytes_eq one other ≡ true
both_empty [] [] same none = refl
both_empty [] (b ∷ other) same none = absurd (cc same)
both_empty (b ∷ one) other same none = absurd (cc none)

same_there : (bytes : List ℕ) (k a b : ℕ) → k < length bytes → a ≡ slice_index_or bytes k a → b ≡ slice_index_or bytes k b → a ≡ b
same_there [] k a b less p q = absurd (omega (arith, less))
same_there (x ∷ bytes) zero a b less p q = p ∙ sym q
same_there (x ∷ bytes) (suc k) a b less p q = same_there bytes k a b (omega (arith, less)) p q

pub differs_there : (one other : List ℕ) (k a b : ℕ) → k < length one → a ≡ slice_index_or one k a → b ≡ slice_index_or other k b → a ≢ b → bytes_eq one other ≡ false
differs_there one other k a b less p q differ = elim (cases_Bool (bytes_eq one other)) [
  | inl same ↦ absurd (differ (same_there one k a b less p (q ∙ ap (λ (l : List ℕ). slice_index_or l k b) (sym ((bytes_eq-Decides one other).0 same)))))
  | inr other_one ↦ other_one
]
