-- Requests of the University of Minnesota's client, as they are passed on. It asks by `$` where the Gopher+ paper, section 2, has `+`; which lines are rewritten is this project's profile.
use Rattle.std.specs.Prelude.{ℕ, Bool, ◌&&◌, ◌||◌, not, List, ◌++◌, if◌then◌else◌, length, drop, codes, nat_lt, nat_le}
use Rattle.std.specs.List.{position_or_len, before_first, after_first}
use Rattle.std.specs.Str.{bytes_eq}
use Rattle.host_types.specs.Lines.{is_lf, without_cr}
use Rattle.request_reader.specs.Lines.{longest_line}
use Rattle.request_reader.specs.RequestLine.{is_tab, is_plus_field, not_empty}

-- ---- the line, without its LF and the CR before it

-- search words: at least one byte, and no Gopher+ part
abbrev pub is_words : List ℕ → Bool
is_words field = not_empty field && not (is_plus_field field)

-- behind the selector `$` and the data flag `1`
abbrev pub has_data : List ℕ → Bool
has_data line = bytes_eq (after_first is_tab line) (codes "$\t1")

-- search words and `$`
abbrev pub is_search : List ℕ → Bool
is_search part = is_words (before_first is_tab part) && bytes_eq (after_first is_tab part) (codes "$")

-- behind the selector search words and `$`
abbrev pub has_words : List ℕ → Bool
has_words line = is_search (after_first is_tab line)

-- a line that is rewritten
abbrev pub is_old : List ℕ → Bool
is_old line = has_data line || has_words line

-- the selector and what stands behind it, with `+` in the place of `$`; every other line stays
abbrev pub adapted_fields : List ℕ → List ℕ
adapted_fields line =
    if has_data line then before_first is_tab line ++ codes "\t+\t1"
    else if has_words line then before_first is_tab line ++ codes "\t" ++ before_first is_tab (after_first is_tab line) ++ codes "\t+"
    else line

-- a CR at the end of the line stays
abbrev pub adapted_line : List ℕ → List ℕ
adapted_line line = adapted_fields (without_cr line) ++ drop (length (without_cr line)) line

-- ---- the input

-- The LF of the first line has come, behind at most 1,024 bytes.
abbrev pub has_line : List ℕ → Bool
has_line input = nat_lt (position_or_len is_lf input) (length input) && nat_le (position_or_len is_lf input) longest_line

-- what is passed on of an input: its first line as above, and all behind it as it came
unfoldable pub adapted_request : List ℕ → List ℕ
adapted_request input =
    if has_line input then adapted_line (before_first is_lf input) ++ drop (position_or_len is_lf input) input
    else input

-- whether the first line is rewritten
unfoldable pub is_rewritten : List ℕ → Bool
is_rewritten input = has_line input && is_old (without_cr (before_first is_lf input))
