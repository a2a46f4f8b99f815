-- Bytes are all 0 where the first is, and each other is the one before it.
use Rattle.std.proofs.Common.{◌≡◌, ◌==◌, ◌-◌, ◌≤◌, ℕ, zero, suc, List, [], ◌∷◌, length, take, drop, get_or, refl, ne_eqb, arith}
use Rattle.std.proofs.lemmas.List.{take_all}
use Rattle.std.specs.Cmp.Lexicographic.{pointwise}
use Rattle.std.specs.List.{list_all}
use Rattle.std.specs.Prelude.{nat_eq}
use Rattle.page_store.specs.Roots.{is_zero}

zeros_behind : (b : ℕ) (rest : List ℕ) → b ≡ 0 → pointwise nat_eq rest (take (length rest) (b ∷ rest)) ≡ list_all is_zero (b ∷ rest)
zeros_behind b [] h = rw h refl
zeros_behind b (zero ∷ rest) h = rw h (zeros_behind 0 rest refl)
zeros_behind b (suc x ∷ rest) h = rw (h, ne_eqb (suc x) 0 (omega arith)) refl

abbrev behind : List ℕ → List ℕ
behind bytes = take (length bytes - 1) (drop 1 bytes)

pub zeros_moved : (bytes : List ℕ) → 1 ≤ length bytes → get_or bytes 0 0 ≡ 0 → pointwise nat_eq (behind bytes) (take (length (behind bytes)) bytes) ≡ list_all is_zero bytes
zeros_moved [] some first = absurd (omega (arith, some))
zeros_moved (b ∷ rest) some first = rw (take_all (length (b ∷ rest) - 1) rest (omega arith)) (zeros_behind b rest first)
