-- Which change was refused, as the first line of a text tells it.
use Rattle.std.specs.Prelude.{◌≡◌, ◌<◌, ◌==◌, ◌^◌, ℕ, Bool, nat_eq, List, ◌∷◌, ◌++◌, Option, Some, None, bytes_eq, codes, drop, position, take, if◌then◌else◌}
use Rattle.std.specs.List.{starts_with}
use Rattle.common_types.specs.Digits.{is_number, number_of}
use Rattle.common_types.specs.declared.refused.Refused.{Refused}
use Rattle.common_types.specs.declared.refused.Refused.TheVariants as refused
use Rattle.change_file.specs.Tables.{◌>>=◌}
use Rattle.common_types.specs.PrintedNames.{change_line, refused_name}

abbrev pub is_lf : ℕ → Bool
is_lf b = b == 10

abbrev pub is_colon : ℕ → Bool
is_colon b = b == 58

-- the bytes before a place, or all
abbrev pub before : Option ℕ → List ℕ → List ℕ
before None text = text
before (Some at) text = take at text

-- the first line of a text, without its LF
abbrev pub first_line : List ℕ → List ℕ
first_line text = before (position is_lf text) text

-- the refusal of a name
abbrev pub refused_named : List ℕ → Option Refused
refused_named name =
    if bytes_eq name (codes "BadName") then Some refused.BadName
    else if bytes_eq name (codes "TooLong") then Some refused.TooLong
    else if bytes_eq name (codes "Reserved") then Some refused.Reserved
    else if bytes_eq name (codes "Missing") then Some refused.Missing
    else if bytes_eq name (codes "NotEmpty") then Some refused.NotEmpty
    else if bytes_eq name (codes "Root") then Some refused.Root
    else if bytes_eq name (codes "NotABoard") then Some refused.NotABoard
    else if bytes_eq name (codes "WrongAnswers") then Some refused.WrongAnswers
    else if bytes_eq name (codes "WrongWord") then Some refused.WrongWord
    else if bytes_eq name (codes "Spent") then Some refused.Spent
    else None

-- the number that up to 19 digits write
abbrev pub number_in : List ℕ → Option ℕ
number_in digits = if is_number 19 digits then Some (number_of digits) else None

abbrev pub name_behind : List ℕ → Option Refused
name_behind text = if starts_with nat_eq text (codes ": ") then refused_named (drop 2 text) else None

-- a number and a name, where the colon between them stands at this place
abbrev pub refusal_at : Option ℕ → List ℕ → Option (ℕ × Refused)
refusal_at None text = None
refusal_at (Some at) text = do
  number ← number_in (take at text)
  refusal ← name_behind (drop at text)
  Some (number, refusal)

abbrev pub refusal_in : List ℕ → Option (ℕ × Refused)
refusal_in line = if starts_with nat_eq line (codes "change ") then refusal_at (position is_colon (drop 7 line)) (drop 7 line) else None

-- the number of a change and why it was refused, where the first line of a text says them
abbrev pub refusal_told : List ℕ → Option (ℕ × Refused)
refusal_told text = refusal_in (first_line text)

-- The line of a change that is refused is read as this, alone and before others.
pub record RefusalsAreRead : Type 0 where
  pub alone : (number : ℕ) (refusal : Refused) → number < 10 ^ 19 → refusal_told (change_line number (refused_name refusal)) ≡ Some (number, refusal)
  pub before_others : (number : ℕ) (refusal : Refused) (rest : List ℕ) → number < 10 ^ 19 → refusal_told (change_line number (refused_name refusal) ++ 10 ∷ rest) ≡ Some (number, refusal)
