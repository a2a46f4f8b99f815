-- What a client asks for: its selector ends at the first tab, CR or LF. RFC 1436, section 2; the Gopher+ paper, section 2.
use Rattle.std.specs.Prelude.{ℕ, ◌==◌, Bool, ◌||◌, List, take, Option, Some, None}
use Rattle.std.specs.List.{position}

abbrev pub is_end : ℕ → Bool
is_end b = b == 9 || b == 13 || b == 10

abbrev pub up_to : Option ℕ → List ℕ → List ℕ
up_to (Some place) bytes = take place bytes
up_to None bytes = bytes

abbrev pub selector_in : List ℕ → List ℕ
selector_in bytes = up_to (position is_end bytes) bytes
