-- What `show` prints of a site.
use Rattle.std.specs.Prelude.{◌≡◌, ℕ, List, [], ◌∷◌, ◌++◌, ◌-◌, Option, Some, None, flat_map, length, if◌then◌else◌, codes, decimal}
use Rattle.host_types.specs.Site.{Site}
use Rattle.host_types.specs.Card.{card_of}
use Rattle.host_types.specs.declared.card.Card.{Card}
use Rattle.host_types.specs.declared.card.CardBody.{CardBody}
use Rattle.host_types.specs.declared.card.CardBody.TheVariants as cards
use Rattle.host_types.specs.declared.card.CardView.{CardView}
use Rattle.page_store.specs.Sectors.{Image}
use Rattle.site_store.specs.Walking.{card_after}
use Rattle.host_on_disk.specs.ImageSites.{ImageRepresents}
use Rattle.text_writer.specs.Menu.{is_moved, type_letter}
use Rattle.plus_blocks.specs.Date.{listed_date}
use Rattle.common_types.specs.Shown.{shown}
use Rattle.image_commands.specs.declared.listing.ListForm.{ListForm}
use Rattle.image_commands.specs.declared.listing.ListForm.TheVariants.{Short, Long}

-- `>` of an item that has moved, and else the letter that its menu line begins with
abbrev pub listed_letter : CardBody → ℕ
listed_letter body = if is_moved body then 62 else type_letter body

-- selector and title, escaped, each behind a space, and LF
abbrev pub named : List ℕ → Card → List ℕ
named selector card = 32 ∷ shown selector ++ 32 ∷ shown card.title ++ 10 ∷ []

-- letter, selector and title
abbrev pub listed_line : List ℕ → Card → List ℕ
listed_line selector card = listed_letter card.body ∷ named selector card

-- how many bytes the first of some views has
abbrev pub first_length : List CardView → Option ℕ
first_length [] = None
first_length (view ∷ views) = Some view.length

-- of a document the bytes of its first view, of a menu its entries, of a board the posts that it has had, of a form its questions
abbrev pub size_of : CardBody → Option ℕ
size_of (cards.Views kind views) = first_length views
size_of (cards.Menu entries) = Some (length entries)
size_of (cards.Board cap next) = Some (next - 1)
size_of (cards.Form board questions) = Some (length questions)
size_of (cards.Search scope) = None
size_of (cards.Moved target) = None

abbrev pub size_text : Option ℕ → List ℕ
size_text (Some size) = decimal size
size_text None = codes "-"

-- letter, date and size of an item
abbrev pub figures_of : Card → List ℕ
figures_of card = listed_letter card.body ∷ 32 ∷ listed_date card.stamp ++ 32 ∷ size_text (size_of card.body)

-- its figures, selector and title
abbrev pub long_line : List ℕ → Card → List ℕ
long_line selector card = figures_of card ++ named selector card

abbrev pub line_in : ListForm → List ℕ → Card → List ℕ
line_in Short = listed_line
line_in Long = long_line

-- the lines of all items, in the order of their selectors
abbrev pub listing_in : ListForm → Site → List ℕ
listing_in form s = flat_map (λ e. line_in form e.0 (card_of e.1)) s.items

abbrev pub listing : Site → List ℕ
listing s = listing_in Short s

-- What is added for the first item above a selector: its line, and its selector is answered; nothing where no item is above.
abbrev pub IsListedNext : ListForm → Site → Option (List ℕ) → List ℕ → List ℕ → Option (List ℕ) → Type 0
IsListedNext form s after old new None = (None ≡ card_after s after) × (new ≡ old)
IsListedNext form s after old new (Some selector) = (card : Card) × (Some (selector, card) ≡ card_after s after) × (new ≡ old ++ line_in form selector card)

-- The image represents a site, and this is its listing.
abbrev pub IsListing : ListForm → Image → List ℕ → Type 0
IsListing form image text = (s : Site) × ImageRepresents image s × (text ≡ listing_in form s)
