-- The page that leads on to a link out of gopherspace. HTML 4.01, sections 5.3.2 (the four names) and 7.4.4 (META); the links that are allowed, and the page, are this project's profile.
use Rattle.std.specs.Prelude.{ℕ, zero, suc, Bool, ◌&&◌, ◌||◌, List, [], ◌∷◌, ◌++◌, ◌==◌, Option, Some, None, if◌then◌else◌, flat_map, codes, length, nat_le, nat_eq}
use Rattle.std.specs.List.{list_all, starts_with}
use Rattle.url_page.specs.declared.names.FrontByte.{FrontByte}

abbrev pub begins_with : List ℕ → List ℕ → Bool
begins_with front bytes = starts_with nat_eq bytes front

-- ---- links that are allowed

-- a printed character that is no space
abbrev pub is_visible : ℕ → Bool
is_visible b = nat_le 33 b && nat_le b 126

abbrev pub has_scheme : List ℕ → Bool
has_scheme url = begins_with (codes "http://") url || begins_with (codes "https://") url || begins_with (codes "ftp://") url || begins_with (codes "gopher://") url

-- at most 251 bytes, each visible, behind one of four schemes
unfoldable pub is_allowed : List ℕ → Bool
is_allowed url = nat_le (length url) 251 && list_all is_visible url && has_scheme url

-- ---- bytes that HTML has names for

-- the four bytes that have a name
abbrev pub escaped : ℕ → List ℕ
escaped b =
    if b == 38 then codes "&amp;"
    else if b == 60 then codes "&lt;"
    else if b == 62 then codes "&gt;"
    else if b == 34 then codes "&quot;"
    else b ∷ []

abbrev pub escape : List ℕ → List ℕ
escape bytes = flat_map escaped bytes

-- The byte that some bytes begin with, or the one that is named there, and how many more bytes its name takes.
abbrev pub named : ℕ → List ℕ → FrontByte
named b bytes =
    if begins_with (codes "&amp;") (b ∷ bytes) then record { byte = 38; more = 4 }
    else if begins_with (codes "&lt;") (b ∷ bytes) then record { byte = 60; more = 3 }
    else if begins_with (codes "&gt;") (b ∷ bytes) then record { byte = 62; more = 3 }
    else if begins_with (codes "&quot;") (b ∷ bytes) then record { byte = 34; more = 5 }
    else record { byte = b; more = 0 }

-- what is read once so many bytes are passed over
abbrev pub unescape_after : List ℕ → ℕ → List ℕ
unescape_after [] skip = []
unescape_after (b ∷ bytes) (suc skip) = unescape_after bytes skip
unescape_after (b ∷ bytes) zero = (named b bytes).byte ∷ unescape_after bytes (named b bytes).more

abbrev pub unescape : List ℕ → List ℕ
unescape bytes = unescape_after bytes 0

-- ---- the page

unfoldable pub opening : List ℕ
opening = codes "<html><head><meta http-equiv=\"refresh\" content=\"0;url="

unfoldable pub middle : List ℕ
middle = codes "\"></head><body><a href=\""

unfoldable pub closing : List ℕ
closing = codes "</a></body></html>\n"

-- one line that names the link three times
unfoldable pub page : List ℕ → List ℕ
page url = opening ++ escape url ++ middle ++ escape url ++ codes "\">" ++ escape url ++ closing

-- the page of a link, where it is allowed
abbrev pub redirect : List ℕ → Option (List ℕ)
redirect url = if is_allowed url then Some (page url) else None
