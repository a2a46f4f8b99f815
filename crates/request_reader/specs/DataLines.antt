-- The lines of data. The Gopher+ paper, section 2.2; the limit, and that a line that begins with two periods loses one, are this project's profile.
use Rattle.std.specs.Prelude.{ℕ, Bool, List, [], ◌∷◌, ◌==◌, if◌then◌else◌, length, take, nat_lt}
use Rattle.std.specs.Str.{bytes_eq}
use Rattle.request_reader.specs.DataHead.{most_data}

abbrev pub is_period : List ℕ → Bool
is_period line = bytes_eq line (46 ∷ [])

-- a line of data that begins with two periods loses one
abbrev pub unstuffed : List ℕ → List ℕ
unstuffed [] = []
unstuffed (b ∷ []) = b ∷ []
unstuffed (b ∷ c ∷ bs) = if b == 46 then (if c == 46 then c ∷ bs else b ∷ c ∷ bs) else b ∷ c ∷ bs

-- all that may follow the head line
unfoldable pub room : List ℕ → List ℕ
room stream = take most_data stream

unfoldable pub is_too_much : List ℕ → Bool
is_too_much stream = nat_lt most_data (length stream)
