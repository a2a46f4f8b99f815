-- Comments in front of a file of changes.
use Rattle.std.specs.Prelude.{ℕ, ◌==◌, ◌&&◌, ◌||◌, Bool, not, List, ◌++◌, nat_le, codes, filter, flat_map, encode_utf8_all}
use Rattle.std.specs.Str.{chars}

-- a character that a comment may have: TAB, and all but the control characters of ASCII
abbrev pub fits : ℕ → Bool
fits c = c == 9 || (nat_le 32 c && not (c == 127))

-- a line that says a text, but for the characters that no comment has
abbrev pub comment : List ℕ → List ℕ
comment text = codes "# " ++ (encode_utf8_all (filter fits (chars text)) ++ codes "\n")

abbrev pub comments : List (List ℕ) → List ℕ
comments texts = flat_map comment texts
