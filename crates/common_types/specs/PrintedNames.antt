-- Refusals and other faults by their names.
use Rattle.std.specs.Prelude.{ℕ, List, ◌++◌, codes, decimal}
use Rattle.common_types.specs.declared.refused.Refused.{Refused}
use Rattle.common_types.specs.declared.refused.Refused.TheVariants.{BadName, TooLong, Reserved, Missing, NotEmpty, Root, NotABoard, WrongAnswers, WrongWord, Spent}

abbrev pub refused_name : Refused → List ℕ
refused_name BadName = codes "BadName"
refused_name TooLong = codes "TooLong"
refused_name Reserved = codes "Reserved"
refused_name Missing = codes "Missing"
refused_name NotEmpty = codes "NotEmpty"
refused_name Root = codes "Root"
refused_name NotABoard = codes "NotABoard"
refused_name WrongAnswers = codes "WrongAnswers"
refused_name WrongWord = codes "WrongWord"
refused_name Spent = codes "Spent"

-- the fault of room goes with its numbers
abbrev pub full_name : ℕ → ℕ → List ℕ
full_name need free = codes "Full " ++ decimal need ++ codes " " ++ decimal free

-- the line of a change that is not made, without its LF
abbrev pub change_line : ℕ → List ℕ → List ℕ
change_line number name = codes "change " ++ decimal number ++ codes ": " ++ name
