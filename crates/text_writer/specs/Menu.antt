-- Menus. RFC 1436, section 3.8 and appendix (Menu Entity, Lastline); the fifth field is the Gopher+ paper's, and its sign `?` for a form this project's profile.
use Rattle.std.specs.Prelude.{◌≡◌, ℕ, Bool, true, false, List, [], ◌∷◌, ◌++◌, Option, Some, None, if◌then◌else◌, flat_map, codes, decimal}
use Rattle.std.specs.List.{join_with_byte, list_any}
use Rattle.host_types.specs.Items.{kind_letter, link_letter}
use Rattle.host_types.specs.Lines.{is_lf, begins}
use Rattle.host_types.specs.Site.{Site}
use Rattle.host_types.specs.Card.{card_at}
use Rattle.host_types.specs.Address.{Address, address}
use Rattle.host_types.specs.declared.menu.Entry.{Entry}
use Rattle.host_types.specs.declared.menu.Entry.TheVariants as entries
use Rattle.host_types.specs.declared.card.Card.{Card}
use Rattle.host_types.specs.declared.card.CardBody.{CardBody}
use Rattle.host_types.specs.declared.card.CardBody.TheVariants as cards
use Rattle.host_types.specs.declared.front.CardSort.{CardSort}
use Rattle.host_types.specs.declared.front.CardSort.TheVariants as sorts
use Rattle.text_writer.specs.Text.{line_end, text_end}

-- fields with a TAB between each two
abbrev pub fields_line : List (List ℕ) → List ℕ
fields_line fields = join_with_byte 9 fields ++ line_end

-- What an item is to clients: a document by its kind, a menu, a search; one that has moved is an error.
abbrev pub type_letter : CardBody → ℕ
type_letter (cards.Views kind views) = kind_letter kind
type_letter (cards.Menu entries) = 49
type_letter (cards.Board cap next) = 49
type_letter (cards.Form board questions) = 49
type_letter (cards.Search scope) = 55
type_letter (cards.Moved target) = 51

abbrev pub is_form : CardBody → Bool
is_form (cards.Views kind views) = false
is_form (cards.Menu entries) = false
is_form (cards.Board cap next) = false
is_form (cards.Form board questions) = true
is_form (cards.Search scope) = false
is_form (cards.Moved target) = false

abbrev pub is_moved : CardBody → Bool
is_moved (cards.Views kind views) = false
is_moved (cards.Menu entries) = false
is_moved (cards.Board cap next) = false
is_moved (cards.Form board questions) = false
is_moved (cards.Search scope) = false
is_moved (cards.Moved target) = true

-- the sign of the fifth field: `?` where a client has to ask its user first
abbrev pub plus_sign : CardBody → List ℕ
plus_sign body = if is_form body then codes "?" else codes "+"

-- ---- the same by what an item is, without what it has

abbrev pub sort_letter : CardSort → ℕ
sort_letter (sorts.Document kind) = kind_letter kind
sort_letter sorts.Menu = 49
sort_letter sorts.Board = 49
sort_letter sorts.Form = 49
sort_letter sorts.Search = 55
sort_letter sorts.Moved = 51

abbrev pub sort_sign : CardSort → List ℕ
sort_sign sorts.Form = codes "?"
sort_sign other = codes "+"

abbrev pub front_line : Address → List ℕ → List ℕ → CardSort → List ℕ
front_line a selector title sort = fields_line ((sort_letter sort ∷ title) ∷ selector ∷ a.host ∷ decimal a.port ∷ sort_sign sort ∷ [])

-- host and port as they stand in each of its lines, with a TAB before each
abbrev pub address_fields : Address → List ℕ
address_fields a = 9 ∷ a.host ++ 9 ∷ decimal a.port

-- the line of an item of the site with this address
abbrev pub item_line : Address → List ℕ → Card → List ℕ
item_line a selector card = fields_line ((type_letter card.body ∷ card.title) ∷ selector ∷ a.host ∷ decimal a.port ∷ plus_sign card.body ∷ [])

-- Nothing that clients find, and a moved item, give no line.
abbrev pub found_line : Address → List ℕ → Option Card → Option (List ℕ)
found_line a selector None = None
found_line a selector (Some card) = if is_moved card.body then None else Some (item_line a selector card)

-- the line of an entry that names no item of the site
abbrev pub link_line : Address → Entry → Option (List ℕ)
link_line a (entries.Local selector) = None
link_line a (entries.Info title) = Some (fields_line ((105 ∷ title) ∷ [] ∷ a.host ∷ decimal a.port ∷ []))
link_line a (entries.Url title url) = Some (fields_line ((104 ∷ title) ∷ (codes "URL:" ++ url) ∷ a.host ∷ decimal a.port ∷ []))
link_line a (entries.Remote kind title selector host port) = Some (fields_line ((link_letter kind ∷ title) ∷ selector ∷ host ∷ decimal port ∷ []))

-- the line of an entry of a menu of the site
abbrev pub entry_line : Site → Entry → Option (List ℕ)
entry_line s (entries.Local selector) = found_line (address s) selector (card_at s selector)
entry_line s (entries.Info title) = link_line (address s) (entries.Info title)
entry_line s (entries.Url title url) = link_line (address s) (entries.Url title url)
entry_line s (entries.Remote kind title selector host port) = link_line (address s) (entries.Remote kind title selector host port)

-- a line that a menu may have
abbrev pub line_bytes : Option (List ℕ) → List ℕ
line_bytes None = []
line_bytes (Some line) = line

-- the lines, then the line that is one period
unfoldable pub menu : List (List ℕ) → List ℕ
menu lines = flat_map (λ line. line) lines ++ text_end

-- One line with its end, which does not begin with a period.
pub record IsMenuLine (line : List ℕ) : Type 0 where
  pub content : List ℕ
  pub ended : line ≡ content ++ line_end
  pub one : list_any is_lf content ≡ false
  pub no_period : begins 46 content ≡ false
