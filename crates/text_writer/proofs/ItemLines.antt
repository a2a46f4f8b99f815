-- The parts of an item's line, one after another, are that line.
use Rattle.std.proofs.Common.{◌≡◌, ℕ, List, [], ◌∷◌, ◌++◌}
use Rattle.std.proofs.lemmas.List.{append_assoc}

abbrev pub parts : List ℕ → ℕ → List ℕ → List ℕ → List ℕ → List ℕ → List ℕ
parts old letter title selector address ending = (((((old ++ (letter ∷ [])) ++ title) ++ (9 ∷ [])) ++ selector) ++ address) ++ ending

pub joined : (old : List ℕ) (letter : ℕ) (title selector host digits sign end : List ℕ) →
    parts old letter title selector (9 ∷ (host ++ (9 ∷ digits))) (9 ∷ (sign ++ end)) ≡ old ++ (letter ∷ ((title ++ (9 ∷ (selector ++ (9 ∷ (host ++ (9 ∷ (digits ++ (9 ∷ sign)))))))) ++ end))
joined old letter title selector host digits sign end = simp append_assoc
