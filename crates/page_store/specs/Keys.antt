-- Keys in byte order.
use Rattle.std.specs.Prelude.{ℕ, Bool, true, List, [], ◌∷◌, Option, Some, None, ◌&&◌, not}
use Rattle.std.specs.Ordering.{is_lt}
use Rattle.common_types.specs.ByteOrder.{byte_cmp}

-- comes before, in byte order
abbrev pub precedes : List ℕ → List ℕ → Bool
precedes a b = is_lt (byte_cmp a b)

-- each comes before the next
abbrev pub rises : List (List ℕ) → Bool
rises [] = true
rises (k ∷ []) = true
rises (k ∷ j ∷ ks) = precedes k j && rises (j ∷ ks)

-- below the bound, where there is one
abbrev pub is_below : Option (List ℕ) → List ℕ → Bool
is_below None key = true
is_below (Some high) key = precedes key high

-- from the lower bound on, and below the upper
abbrev pub is_between : List ℕ → Option (List ℕ) → List ℕ → Bool
is_between low high key = not (precedes key low) && is_below high key
