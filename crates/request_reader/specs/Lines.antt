-- How a stream is cut into lines. RFC 1436 ends a line by CR LF; that LF alone ends one, and the limit, are this project's profile.
use Rattle.std.specs.Prelude.{ℕ, List, [], ◌∷◌, ◌+◌, ◌==◌, if◌then◌else◌, length, take, drop, map, nat_lt, nat_le}
use Rattle.std.specs.List.{position_or_len, before_first}
pub use Rattle.host_types.specs.Lines.{is_lf, without_cr}

-- A stream's first line and what follows its LF, or that the LF has not come yet, or will come too late.
pub data Cut : Type 0 where
  NotYet : Cut
  TooLate : Cut
  Line : List ℕ → List ℕ → Cut

-- how many bytes the first line has, at most
abbrev pub longest_line : ℕ
longest_line = 1024

-- the bytes among which the LF has to be
unfoldable pub front : List ℕ → List ℕ
front stream = take 1025 stream

unfoldable pub first_line : List ℕ → Cut
first_line stream =
    if nat_lt (position_or_len is_lf (front stream)) (length (front stream))
    then Line (without_cr (before_first is_lf (front stream))) (drop (position_or_len is_lf (front stream) + 1) stream)
    else if nat_le (length stream) longest_line then NotYet
    else TooLate

-- a byte in front of the first part, where there is one
abbrev pub onto_ended : ℕ → List (List ℕ) → List (List ℕ)
onto_ended b [] = []
onto_ended b (part ∷ others) = (b ∷ part) ∷ others

-- what stands before each LF, from the LF before it on
abbrev pub ended_parts : List ℕ → List (List ℕ)
ended_parts [] = []
ended_parts (b ∷ bs) = if b == 10 then [] ∷ ended_parts bs else onto_ended b (ended_parts bs)

-- the lines whose LF has come
abbrev pub ended_lines : List ℕ → List (List ℕ)
ended_lines stream = map without_cr (ended_parts stream)
