-- The answers of `memchr` as places in lists.
use Rattle.std.proofs.Common.{◌≡◌, ℕ, ◌<◌, Bool, List, length, arith}
use Rattle.std.specs.Prelude.{Some, None}
use Rattle.std.specs.List.{position_or_len}
use Rattle.std.proofs.lemmas.Bool.{false_from_ne_true}
use Rattle.std.proofs.lemmas.List.Sums.{position_or_len_is}
use Rattle.memchr.specs.Find.{IsFirstByte}

-- the first byte that passes is the place
pub place_of_first : (test : ℕ → Bool) (xs : List ℕ) (k : ℕ) → IsFirstByte test xs (Some k) → position_or_len test xs ≡ k
place_of_first test xs k h =
    let below : k < length xs = h.0.high in
    position_or_len_is test xs k 0 (omega arith)
    (λ j before. false_from_ne_true _ (h.0.before j (omega arith) before))
    (λ _. h.1)

-- with no such byte the place is the length
pub place_of_none : (test : ℕ → Bool) (xs : List ℕ) → IsFirstByte test xs None → position_or_len test xs ≡ length xs
place_of_none test xs h =
    position_or_len_is test xs (length xs) 0 (omega arith)
    (λ j before. false_from_ne_true _ (h j (omega arith) before))
    (λ less. absurd (omega arith))
