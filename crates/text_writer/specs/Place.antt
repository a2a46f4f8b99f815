-- Text in one pass over a body. What a byte gives depends on its place in its line alone.
use Rattle.std.specs.Prelude.{ℕ, zero, suc, Bool, true, false, List, [], ◌∷◌, ◌++◌, ◌==◌, ◌&&◌, ◌||◌, if◌then◌else◌}
use Rattle.std.specs.List.{position_or_len}
use Rattle.text_writer.specs.Text.{text_end}
use Rattle.text_writer.specs.declared.place.LinePlace.{LinePlace}

-- the place before the first byte
abbrev pub body_start : LinePlace
body_start = record { at_start = true; held = false }

-- what one byte gives
abbrev pub emitted : LinePlace → ℕ → List ℕ
emitted p b =
    if b == 10 then 13 ∷ 10 ∷ []
    else if b == 13 then (if p.held then 13 ∷ [] else [])
    else if p.held then 13 ∷ b ∷ []
    else if p.at_start && b == 46 then 46 ∷ 46 ∷ []
    else b ∷ []

-- where the line is after it
abbrev pub after : LinePlace → ℕ → LinePlace
after p b =
    if b == 10 then record { at_start = true; held = false }
    else if b == 13 then record { at_start = (if p.held then false else p.at_start); held = true }
    else record { at_start = false; held = false }

-- what the end of the body gives
abbrev pub closing : LinePlace → List ℕ
closing p =
    if p.held then 13 ∷ 13 ∷ 10 ∷ text_end
    else if p.at_start then text_end
    else 13 ∷ 10 ∷ text_end

-- what is given from a place on, for the rest of the body
abbrev pub given_from : LinePlace → List ℕ → List ℕ
given_from p [] = closing p
given_from p (b ∷ bs) = emitted p b ++ given_from (after p b) bs

-- LF or CR
abbrev pub may_end_line : ℕ → Bool
may_end_line b = b == 10 || b == 13

-- a period at the front
abbrev pub begins_with_period : List ℕ → Bool
begins_with_period [] = false
begins_with_period (b ∷ bs) = b == 46

-- How many of the next bytes are sent as they are: those before a CR or an LF; none where a CR is held or a line begins with a period.
abbrev pub run_length : LinePlace → List ℕ → ℕ
run_length p bytes = if p.held || (p.at_start && begins_with_period bytes) then 0 else position_or_len may_end_line bytes

-- the place behind so many bytes that are sent as they are
abbrev pub behind_run : LinePlace → ℕ → LinePlace
behind_run p zero = p
behind_run p (suc run) = record { at_start = false; held = false }
