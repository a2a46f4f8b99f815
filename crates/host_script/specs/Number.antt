-- Numbers as a script writes them.
use Rattle.std.specs.Prelude.{ℕ, ◌^◌, ◌&&◌, List, length, Option, Some, None, nat_lt, if◌then◌else◌}
use Rattle.std.specs.Str.{all_ascii_digits}
use Rattle.std.specs.Str.Parse.{digits_value}

-- one decimal digit or more, and nothing else, of a number below 2^64
unfoldable pub number_of : List ℕ → Option ℕ
number_of field =
    if all_ascii_digits field && nat_lt 0 (length field) && nat_lt (digits_value 10 field) (2 ^ 64) then Some (digits_value 10 field)
    else None
