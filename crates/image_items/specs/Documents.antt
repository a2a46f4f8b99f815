-- The bytes of a document, by the view that is wanted.
use Rattle.std.specs.Prelude.{ℕ, List, Option, Some, None, Result, Ok, Err}
use Rattle.std.specs.List.{position, before_first, after_first}
use Rattle.host_types.specs.Site.{Site}
use Rattle.host_types.specs.Card.{card_at, viewed_at}
use Rattle.host_types.specs.declared.card.Card.{Card}
use Rattle.host_types.specs.declared.card.CardBody.{CardBody}
use Rattle.host_types.specs.declared.card.CardBody.TheVariants as cards
use Rattle.request_reader.specs.Request.{RequestedView}
use Rattle.request_reader.specs.RequestLine.{is_space, language_of}
use Rattle.site_replies.specs.Reply.{is_requested}
use Rattle.image_items.specs.declared.fault.ItemFault.{ItemFault}
use Rattle.image_items.specs.declared.fault.ItemFault.TheVariants as faults

-- a view as requests name it: its name, and behind the first space its language
abbrev pub named : List ℕ → RequestedView
named text = record { name = before_first is_space text; language = language_of (after_first is_space text) }

-- where none is named it is the first one
abbrev pub wanted : Option (List ℕ) → Option RequestedView
wanted None = None
wanted (Some text) = Some (named text)

abbrev pub first_place : Option ℕ → Result ℕ ItemFault
first_place None = Err faults.NoView
first_place (Some place) = Ok place

-- the place of the first view of a document that is wanted
abbrev pub place_of : CardBody → Option (List ℕ) → Result ℕ ItemFault
place_of (cards.Views kind views) view = first_place (position (is_requested (wanted view)) views)
place_of (cards.Menu entries) view = Err faults.NoDocument
place_of (cards.Board cap next) view = Err faults.NoDocument
place_of (cards.Form board questions) view = Err faults.NoDocument
place_of (cards.Search scope) view = Err faults.NoDocument
place_of (cards.Moved target) view = Err faults.NoDocument

abbrev pub place_in : Option Card → Option (List ℕ) → Result ℕ ItemFault
place_in None view = Err faults.NotFound
place_in (Some card) view = place_of card.body view

abbrev pub bytes_at : Site → List ℕ → Result ℕ ItemFault → Result (List ℕ) ItemFault
bytes_at s selector (Ok place) = Ok (viewed_at s selector place)
bytes_at s selector (Err fault) = Err fault

-- the bytes of the view that is wanted of what stands at a selector, as they are stored; or why there are none
abbrev pub document_at : Site → List ℕ → Option (List ℕ) → Result (List ℕ) ItemFault
document_at s selector view = bytes_at s selector (place_in (card_at s selector) view)

-- the bytes of what was found
abbrev pub bytes_in : {A : Type 0} → (A → List ℕ) → Result A ItemFault → Result (List ℕ) ItemFault
bytes_in bytes (Ok found) = Ok (bytes found)
bytes_in bytes (Err fault) = Err fault
