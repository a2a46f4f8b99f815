-- How a line of a gophermap is written that says something.
use Rattle.std.specs.Prelude.{◌≡◌, ℕ, ◌==◌, ◌&&◌, Bool, true, not, List, [], ◌∷◌, ◌++◌, codes, decimal, length, nat_lt, Option, Some, None, Ok}
use Rattle.std.specs.List.{join_with_byte}
use Rattle.common_types.specs.Names.{is_url_name}
use Rattle.host_types.specs.Items.{link_letter}
use Rattle.gophermap.specs.Line.{Line, Info, Title, Link, Entry, Comment, Listing, End, line_of}
use Rattle.gophermap.specs.Laws.{fits}

abbrev pub host_field : Option (List ℕ) → List ℕ
host_field None = []
host_field (Some host) = host

abbrev pub port_field : Option ℕ → List ℕ
port_field None = []
port_field (Some port) = decimal port

-- fields with TABs between them, as menus have them
abbrev pub spelled : Line → List ℕ
spelled (Info title) = join_with_byte 9 ((105 ∷ title) ∷ [] ∷ [])
spelled (Title title) = 33 ∷ title
spelled (Link title url) = join_with_byte 9 ((104 ∷ title) ∷ (codes "URL:" ++ url) ∷ [])
spelled (Entry kind title selector place) = join_with_byte 9 ((link_letter kind ∷ title) ∷ selector ∷ host_field place.host ∷ port_field place.port ∷ [])
spelled Comment = codes "#"
spelled Listing = codes "*"
spelled End = codes "."

-- All lines but two have a spelling: an item without a selector has its title for one, and a page at a selector of links would be a link.
abbrev pub has_spelling : Line → Bool
has_spelling (Entry kind title selector place) = nat_lt 0 (length selector) && not (link_letter kind == 104 && is_url_name selector)
has_spelling line = true

abbrev pub SpellingsRead : Type 0
SpellingsRead = (line : Line) → fits line ≡ true → has_spelling line ≡ true → line_of (spelled line) ≡ Ok line
