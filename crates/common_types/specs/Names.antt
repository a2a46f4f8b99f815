-- Lawful names, as tests on their bytes.
use Rattle.std.specs.Prelude.{ℕ, Bool, List, ◌++◌, decimal, length, nat_lt, nat_le, ◌&&◌, ◌||◌, ◌==◌, not, nat_eq, codes, Result, Ok, Err, if◌then◌else◌}
use Rattle.std.specs.List.{list_all, list_any, starts_with}
use Rattle.common_types.specs.declared.refused.Refused.{Refused}
use Rattle.common_types.specs.declared.refused.Refused.TheVariants.{BadName, TooLong}

-- TAB, CR, LF and NUL, which end fields and lines
abbrev pub is_forbidden : ℕ → Bool
is_forbidden b = b == 0 || b == 9 || b == 10 || b == 13

-- bytes that a menu line can hold in one field
abbrev pub is_field : List ℕ → Bool
is_field bytes = not (list_any is_forbidden bytes)

-- a printed character that is no space
abbrev pub is_visible : ℕ → Bool
is_visible b = nat_le 33 b && nat_le b 126

-- at least one byte, each visible
abbrev pub is_word : List ℕ → Bool
is_word bytes = nat_lt 0 (length bytes) && list_all is_visible bytes

-- a link that a browser may follow
abbrev pub has_scheme : List ℕ → Bool
has_scheme bytes = starts_with nat_eq bytes (codes "http://") || starts_with nat_eq bytes (codes "https://") || starts_with nat_eq bytes (codes "ftp://") || starts_with nat_eq bytes (codes "gopher://")

abbrev pub is_url : List ℕ → Bool
is_url bytes = is_word bytes && has_scheme bytes

-- the selector of a board's post
abbrev pub post_selector : List ℕ → ℕ → List ℕ
post_selector board n = codes "post/" ++ board ++ codes "/" ++ decimal n

-- the selector of a post
abbrev pub is_post_name : List ℕ → Bool
is_post_name selector = starts_with nat_eq selector (codes "post/")

-- a link out of gopherspace, which no item has
abbrev pub is_url_name : List ℕ → Bool
is_url_name selector = starts_with nat_eq selector (codes "URL:")

abbrev pub is_reserved : List ℕ → Bool
is_reserved selector = is_url_name selector || is_post_name selector

-- the bytes as a name of at most so many bytes that passes the test: too long first
abbrev pub name_of : (List ℕ → Bool) → ℕ → List ℕ → Result (List ℕ) Refused
name_of test most bytes = if nat_lt most (length bytes) then Err TooLong else if test bytes then Ok bytes else Err BadName

abbrev pub stamp_of : ℕ → Result ℕ Refused
stamp_of seconds = if nat_lt 253402300799 seconds then Err TooLong else Ok seconds
