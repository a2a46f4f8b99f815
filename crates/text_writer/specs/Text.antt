-- Text as it is sent, and what a client reads. RFC 1436, appendix (TextFile Entity, Lastline).
use Rattle.std.specs.Prelude.{◌≡◌, ℕ, Bool, true, false, not, List, [], ◌∷◌, ◌++◌, ◌==◌, ◌&&◌, if◌then◌else◌, flat_map}
use Rattle.std.specs.Str.{bytes_eq}
use Rattle.host_types.specs.Lines.{begins, lines}

abbrev pub line_end : List ℕ
line_end = 13 ∷ 10 ∷ []

-- a line as it is sent: one that begins with a period has one more
abbrev pub sent_line : List ℕ → List ℕ
sent_line line = (if begins 46 line then 46 ∷ line else line) ++ line_end

-- the line that is one period
abbrev pub text_end : List ℕ
text_end = 46 ∷ line_end

unfoldable pub text : List ℕ → List ℕ
text body = flat_map sent_line (lines body) ++ text_end

-- bytes as they are sent: as a text, or as they are
abbrev pub sent_as : Bool → List ℕ → List ℕ
sent_as true body = text body
sent_as false body = body

abbrev pub is_period : List ℕ → Bool
is_period line = bytes_eq line (46 ∷ [])

-- a line without one period at its start
abbrev pub without_period : List ℕ → List ℕ
without_period [] = []
without_period (b ∷ bs) = if b == 46 then bs else b ∷ bs

-- the lines up to the first that is one period
abbrev pub read_lines : List (List ℕ) → List (List ℕ)
read_lines [] = []
read_lines (line ∷ others) = if is_period line then [] else without_period line ∷ read_lines others

-- what a client reads of a reply
abbrev pub client : List ℕ → List (List ℕ)
client reply = read_lines (lines reply)

-- The last line is one period, and no line before it begins with one, so that every client finds the end.
abbrev pub is_ended_once : List (List ℕ) → Bool
is_ended_once [] = false
is_ended_once (line ∷ []) = is_period line
is_ended_once (line ∷ other ∷ others) = not (begins 46 line) && is_ended_once (other ∷ others)

abbrev pub EndsOnce : List ℕ → Type 0
EndsOnce reply = is_ended_once (lines reply) ≡ true
