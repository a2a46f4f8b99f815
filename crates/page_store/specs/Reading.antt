-- Reading fields from left to right, or nothing.
use Rattle.std.specs.Prelude.{ℕ, Bool, true, false, List, [], ◌∷◌, length, take, drop, Option, Some, None, nat_le}
use Rattle.std.specs.Int.{Width, byte_len, from_be_bytes}

infixl 10 ◌>>=◌
abbrev pub ◌>>=◌ : {A B : Type 0} → Option A → (A → Option B) → Option B
(Some x) >>= f = f x
None >>= f = None

-- nothing where the test fails
abbrev pub where_true : {A : Type 0} → Bool → Option A → Option A
where_true true x = x
where_true false x = None

-- so many bytes, and those after them
abbrev pub piece_at : ℕ → List ℕ → Option (List ℕ × List ℕ)
piece_at n bytes = where_true (nat_le n (length bytes)) (Some (take n bytes, drop n bytes))

abbrev pub byte_at : List ℕ → Option (ℕ × List ℕ)
byte_at [] = None
byte_at (b ∷ bs) = Some (b, bs)

-- a number of so many bytes, the highest first
abbrev pub number_at : Width → List ℕ → Option (ℕ × List ℕ)
number_at w bytes = where_true (nat_le (byte_len w) (length bytes)) (Some (from_be_bytes w (take (byte_len w) bytes), drop (byte_len w) bytes))
