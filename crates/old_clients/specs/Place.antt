-- A reply in one pass. What a byte gives depends on its place alone.
use Rattle.std.specs.Prelude.{ℕ, List, [], ◌∷◌, ◌++◌, ◌+◌, ◌==◌, ◌&&◌, if◌then◌else◌, length, nat_lt, get_or}
use Rattle.std.specs.List.{position_or_len}
use Rattle.host_types.specs.Lines.{is_lf}
use Rattle.text_writer.specs.Text.{text_end}
use Rattle.old_clients.specs.AdaptedReply.{head_line, info}
use Rattle.old_clients.specs.declared.place.Place.{Place}
use Rattle.old_clients.specs.declared.place.Place.TheVariants.{Head, LineStart, Period, PeriodCr, Inside, Behind}

-- what one byte gives
abbrev pub emitted : Place → ℕ → List ℕ
emitted (Head n) b = b ∷ []
emitted LineStart b = if b == 46 then [] else info ++ b ∷ []
emitted Period b = if b == 13 then [] else info ++ 46 ∷ b ∷ []
emitted PeriodCr b = if b == 10 then text_end else info ++ 46 ∷ 13 ∷ b ∷ []
emitted Inside b = b ∷ []
emitted Behind b = b ∷ []

-- the place behind a byte of a line
abbrev pub after_byte : ℕ → Place
after_byte b = if b == 10 then LineStart else Inside

-- the byte goes on with the head line, of which so many bytes came
abbrev pub after_head : ℕ → Place
after_head n = if n == 4 then LineStart else Head (n + 1)

-- the place after a byte
abbrev pub after : Place → ℕ → Place
after (Head n) b = if nat_lt n 5 && b == get_or head_line n 0 then after_head n else Behind
after LineStart b = if b == 46 then Period else after_byte b
after Period b = if b == 13 then PeriodCr else after_byte b
after PeriodCr b = if b == 10 then Behind else after_byte b
after Inside b = after_byte b
after Behind b = Behind

-- what the end of the reply gives
abbrev pub closing : Place → List ℕ
closing (Head n) = []
closing LineStart = []
closing Period = info ++ 46 ∷ []
closing PeriodCr = info ++ 46 ∷ 13 ∷ []
closing Inside = []
closing Behind = []

-- what is given from a place on, for the rest of the reply
abbrev pub given_from : Place → List ℕ → List ℕ
given_from p [] = closing p
given_from p (b ∷ bs) = emitted p b ++ given_from (after p b) bs

-- how many of the next bytes are sent as they are and lead to no other place
abbrev pub run_length : Place → List ℕ → ℕ
run_length (Head n) bytes = 0
run_length LineStart bytes = 0
run_length Period bytes = 0
run_length PeriodCr bytes = 0
run_length Inside bytes = position_or_len is_lf bytes
run_length Behind bytes = length bytes
