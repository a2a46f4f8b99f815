-- What the line of a menu says of an item.
use Rattle.std.specs.Prelude.{ℕ, List, Option}
use Rattle.std.specs.Option.{option_map}
use Rattle.host_types.specs.Card.{card_at}
use Rattle.host_types.specs.Site.{Site}
use Rattle.host_types.specs.declared.card.Card.{Card}
use Rattle.host_types.specs.declared.card.CardBody.{CardBody}
use Rattle.host_types.specs.declared.card.CardBody.TheVariants as cards
use Rattle.host_types.specs.declared.front.CardSort.{CardSort}
use Rattle.host_types.specs.declared.front.CardSort.TheVariants as sorts
use Rattle.host_types.specs.declared.front.CardFront.{CardFront}

-- what an item is, without what it has
abbrev pub sort_of : CardBody → CardSort
sort_of (cards.Views kind views) = sorts.Document kind
sort_of (cards.Menu entries) = sorts.Menu
sort_of (cards.Board cap next) = sorts.Board
sort_of (cards.Form board questions) = sorts.Form
sort_of (cards.Search scope) = sorts.Search
sort_of (cards.Moved target) = sorts.Moved

abbrev pub front_of : Card → CardFront
front_of card = record { title = card.title; until = card.until; sort = sort_of card.body }

-- the front of what stands at a selector
abbrev pub front_at : Site → List ℕ → Option CardFront
front_at s selector = option_map front_of (card_at s selector)
