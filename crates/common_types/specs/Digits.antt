-- Decimal numbers of few digits.
use Rattle.std.specs.Prelude.{ℕ, Bool, List, ◌+◌, ◌-◌, ◌*◌, ◌&&◌, length, nat_lt, nat_le, fold}
use Rattle.std.specs.Char.{is_ascii_digit}
use Rattle.std.specs.List.{list_all}

-- decimal digits alone, at least one and at most so many
abbrev pub is_number : ℕ → List ℕ → Bool
is_number most bytes = nat_lt 0 (length bytes) && nat_le (length bytes) most && list_all is_ascii_digit bytes

-- the number that decimal digits write
abbrev pub number_of : List ℕ → ℕ
number_of digits = fold (λ n b. 10 * n + (b - 48)) 0 digits
