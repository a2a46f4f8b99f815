-- What a search finds, each with what the line of a menu says of it.
use Rattle.std.specs.Prelude.{ℕ, List, Option, filter_map}
use Rattle.std.specs.Option.{option_map}
use Rattle.host_types.specs.Card.{card_of}
use Rattle.host_types.specs.Fronts.{front_of, front_at}
use Rattle.host_types.specs.Site.{Site}
use Rattle.host_types.specs.declared.front.CardFront.{CardFront}
use Rattle.host_types.specs.declared.item.Item.{Item}
use Rattle.word_search.specs.Search.{search_of}
use Rattle.word_search.specs.declared.find.Find.{Find}

abbrev pub find_by : List ℕ → CardFront → Find
find_by selector front = record { selector = selector; front = front }

-- the find of an item
abbrev pub find_of : List ℕ × Item → Find
find_of e = find_by e.0 (front_of (card_of e.1))

-- the find of what stands at a selector
abbrev pub find_at : Site → List ℕ → Option Find
find_at s selector = option_map (find_by selector) (front_at s selector)

-- what a search finds
unfoldable pub finds_of : Site → List ℕ → List ℕ → List Find
finds_of s scope query = filter_map (find_at s) (search_of s scope query)
