-- The first bytes of what comes in pieces.
use Rattle.std.proofs.Common.{◌≡◌, ⊎_elim, ℕ, ◌-◌, ◌≤◌, ◌<◌, List, ◌++◌, length, take, min, refl, sym, ap, ◌∙◌, arith, zero, suc, [], ◌∷◌}
use Rattle.std.proofs.lemmas.List.{take_all, length-take}
use Rattle.std.proofs.lemmas.Bool.{cases_lt}

less : (k : ℕ) → 0 ≡ 0 - suc k
less k = omega arith

less_none : (k : ℕ) → k ≡ k - 0
less_none k = omega arith

-- what is taken of two lists is so many of the first, and of the second as many as are left
pub take_both : {X : Type 0} (n : ℕ) (xs ys : List X) → take n (xs ++ ys) ≡ take n xs ++ take (n - length xs) ys
take_both zero [] ys = ap (λ m. take m ys) (less_none 0)
take_both zero (x ∷ xs) ys = ap (λ m. take m ys) (less (length xs))
take_both (suc n) [] ys = ap (λ m. take m ys) (less_none (suc n))
take_both (suc n) (x ∷ xs) ys = ap (λ l. x ∷ l) (take_both n xs ys ∙ ap (λ m. take n xs ++ take m ys) (omega arith))

take_min : {X : Type 0} (n : ℕ) (ys : List X) → take (min n (length ys)) ys ≡ take n ys
take_min n ys = ⊎_elim (λ (lt : length ys < n). ap (λ m. take m ys) (omega arith) ∙ take_all (length ys) ys (omega arith) ∙ sym (take_all n ys (omega arith))) (λ (le : n ≤ length ys). ap (λ m. take m ys) (omega arith)) (cases_lt (length ys) n)

pub kept_more : {X : Type 0} (n room : ℕ) (kept piece : List X) → length kept ≤ n → room ≡ min (n - length kept) (length piece) → kept ++ take room piece ≡ take n (kept ++ piece)
kept_more n room kept piece fits is = ap (λ m. kept ++ take m piece) is ∙ ap (λ l. kept ++ l) (take_min (n - length kept) piece) ∙ sym (take_both n kept piece ∙ ap (λ l. l ++ take (n - length kept) piece) (take_all n kept fits))

take_take : {X : Type 0} (n : ℕ) (xs : List X) → take n (take n xs) ≡ take n xs
take_take zero [] = refl
take_take zero (x ∷ xs) = refl
take_take (suc n) [] = refl
take_take (suc n) (x ∷ xs) = ap (λ l. x ∷ l) (take_take n xs)

pub take_pieces : {X : Type 0} (n : ℕ) (xs ys : List X) → take n (take n xs ++ ys) ≡ take n (xs ++ ys)
take_pieces n xs ys =
    take_both n (take n xs) ys ∙ ap (λ l. l ++ take (n - length (take n xs)) ys) (take_take n xs)
    ∙ ⊎_elim
    (λ (lt : length xs < n). ap (λ l. take n xs ++ take (n - length l) ys) (take_all n xs (omega arith)))
    (λ (le : n ≤ length xs). ap (λ m. take n xs ++ take m ys) (omega (arith, length-take n xs)))
    (cases_lt (length xs) n)
    ∙ sym (take_both n xs ys)
