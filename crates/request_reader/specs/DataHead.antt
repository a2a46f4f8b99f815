-- The head line of data. The Gopher+ paper, section 2.2: `+-1`, `+-2` or a length. The greatest length is this project's profile.
use Rattle.std.specs.Prelude.{ℕ, List, [], ◌∷◌, ◌==◌, if◌then◌else◌, nat_lt, codes, Result, Ok, Err}
use Rattle.std.specs.Str.{bytes_eq}
use Rattle.common_types.specs.Digits.{is_number, number_of}
use Rattle.request_reader.specs.declared.cause.Cause.{Cause}
use Rattle.request_reader.specs.declared.cause.Cause.TheVariants.{TooLong, NotUnderstood}
use Rattle.request_reader.specs.declared.data_head.Extent.{Extent}
use Rattle.request_reader.specs.declared.data_head.Extent.TheVariants.{ToPeriod, ToEnd, Count}

-- the most bytes that may follow the head line
unfoldable pub most_data : ℕ
most_data = 32768

unfoldable pub counted : List ℕ → Result Extent Cause
counted digits =
    if is_number 5 digits then (if nat_lt most_data (number_of digits) then Err TooLong else Ok (Count (number_of digits)))
    else Err NotUnderstood

abbrev pub after_plus : List ℕ → Result Extent Cause
after_plus [] = Err NotUnderstood
after_plus (b ∷ bs) = if b == 43 then counted bs else Err NotUnderstood

unfoldable pub extent_of : List ℕ → Result Extent Cause
extent_of line =
    if bytes_eq line (codes "+-1") then Ok ToPeriod
    else if bytes_eq line (codes "+-2") then Ok ToEnd
    else after_plus line
