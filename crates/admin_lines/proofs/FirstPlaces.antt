-- Where the first byte of a kind stands.
use Rattle.std.proofs.Common.{◌≡◌, ℕ, ◌+◌, ◌<◌, Bool, true, false, cond, ◌||◌, ltb, List, [], ◌∷◌, ◌++◌, length, refl, sym, ap, ◌∙◌, arith}
use Rattle.std.specs.Prelude.{Option, Some, None, position}
use Rattle.std.specs.List.{list_any, position_from, position_or_len}
use Rattle.std.proofs.lemmas.Iterator.Adapters.{position_from-zero}

module _ (p : ℕ → Bool) where
  stays_if : (b : Bool) (i : ℕ) (xs ys : List ℕ) (k : ℕ) → (position_from p (i + 1) xs ≡ Some k → position_from p (i + 1) (xs ++ ys) ≡ Some k) → cond b (Some i) (position_from p (i + 1) xs) ≡ Some k → cond b (Some i) (position_from p (i + 1) (xs ++ ys)) ≡ Some k
  stays_if true i xs ys k later is = is
  stays_if false i xs ys k later is = later is

  stays_from : (i : ℕ) (xs ys : List ℕ) (k : ℕ) → position_from p i xs ≡ Some k → position_from p i (xs ++ ys) ≡ Some k
  stays_from i [] ys k is = absurd cc
  stays_from i (x ∷ xs) ys k is = stays_if (p x) i xs ys k (stays_from (i + 1) xs ys k) is

  -- a place that was found stays
  pub stays : (xs ys : List ℕ) (k : ℕ) → position p xs ≡ Some k → position p (xs ++ ys) ≡ Some k
  stays xs ys k is = position_from-zero p (xs ++ ys) ∙ stays_from 0 xs ys k (sym (position_from-zero p xs) ∙ is)

  behind_if : (b : Bool) (i : ℕ) (xs : List ℕ) (y : ℕ) (ys : List ℕ) → b || list_any p xs ≡ false → (list_any p xs ≡ false → position_from p (i + 1) (xs ++ y ∷ ys) ≡ Some (i + 1 + length xs)) → cond b (Some i) (position_from p (i + 1) (xs ++ y ∷ ys)) ≡ Some (i + length (y ∷ xs))
  behind_if true i xs y ys none later = absurd cc
  behind_if false i xs y ys none later = later none ∙ ap Some (omega arith)

  behind_from : (i : ℕ) (xs : List ℕ) (y : ℕ) (ys : List ℕ) → list_any p xs ≡ false → p y ≡ true → position_from p i (xs ++ y ∷ ys) ≡ Some (i + length xs)
  behind_from i [] y ys none is = ap (λ b. cond b (Some i) (position_from p (i + 1) ys)) is ∙ ap Some (omega arith)
  behind_from i (x ∷ xs) y ys none is = behind_if (p x) i xs y ys none (λ rest. behind_from (i + 1) xs y ys rest is)

  -- the first one that passes stands behind those that don't
  pub behind : (xs : List ℕ) (y : ℕ) (ys : List ℕ) → list_any p xs ≡ false → p y ≡ true → position p (xs ++ y ∷ ys) ≡ Some (length xs)
  behind xs y ys none is = position_from-zero p (xs ++ y ∷ ys) ∙ behind_from 0 xs y ys none is ∙ ap Some (omega arith)
