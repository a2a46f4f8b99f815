-- What is known of an item without the bytes of its documents, and those bytes by chunks.
use Rattle.std.specs.Prelude.{ℕ, ◌*◌, Bool, true, List, [], Option, Some, None, length, map, take, drop, nat_le, slice_get}
use Rattle.std.specs.Option.{option_map}
use Rattle.host_types.specs.Items.{view_bytes, most_view_bytes}
use Rattle.host_types.specs.Site.{Site, item_at}
use Rattle.host_types.specs.declared.view.View.{View}
use Rattle.host_types.specs.declared.item.Item.{Item}
use Rattle.host_types.specs.declared.item.Body.{Body}
use Rattle.host_types.specs.declared.item.Body.TheVariants as bodies
use Rattle.host_types.specs.declared.card.Card.{Card}
use Rattle.host_types.specs.declared.card.CardView.{CardView}
use Rattle.host_types.specs.declared.card.CardBody.{CardBody}
use Rattle.host_types.specs.declared.card.CardBody.TheVariants as cards

-- a view with its length in place of its bytes
abbrev pub card_view : View → CardView
card_view v = record { name = v.name; language = v.language; length = length v.bytes }

abbrev pub card_body : Body → CardBody
card_body (bodies.Views kind views) = cards.Views kind (map card_view views)
card_body (bodies.Menu entries) = cards.Menu entries
card_body (bodies.Board cap next) = cards.Board cap next
card_body (bodies.Form board questions) = cards.Form board questions
card_body (bodies.Search scope) = cards.Search scope
card_body (bodies.Moved target) = cards.Moved target

-- an item with lengths in place of the bytes of its views
abbrev pub card_of : Item → Card
card_of item = record { title = item.title; stamp = item.stamp; until = item.until; summary = item.summary; body = card_body item.body }

-- the card of what stands at a selector
abbrev pub card_at : Site → List ℕ → Option Card
card_at s selector = option_map card_of (item_at s selector)

-- the bytes of a view; of none there are no bytes
abbrev pub bytes_of : Option View → List ℕ
bytes_of None = []
bytes_of (Some view) = view.bytes

-- the bytes of a view by its place; what is no document has none
abbrev pub viewed : Body → ℕ → List ℕ
viewed (bodies.Views kind views) place = bytes_of (slice_get views place)
viewed (bodies.Menu entries) place = []
viewed (bodies.Board cap next) place = []
viewed (bodies.Form board questions) place = []
viewed (bodies.Search scope) place = []
viewed (bodies.Moved target) place = []

abbrev pub viewed_in : Option Item → ℕ → List ℕ
viewed_in None place = []
viewed_in (Some item) place = viewed item.body place

-- the bytes of a view of what stands at a selector
abbrev pub viewed_at : Site → List ℕ → ℕ → List ℕ
viewed_at s selector place = viewed_in (item_at s selector) place

-- Chunk k of some bytes: 1,000 of them each, the last shorter.
unfoldable pub chunk_of : List ℕ → ℕ → List ℕ
chunk_of bytes k = take 1000 (drop (1000 * k) bytes)

-- the views of an item have no more bytes together than they may
abbrev pub has_short_views : Body → Bool
has_short_views (bodies.Views kind views) = nat_le (view_bytes views) most_view_bytes
has_short_views (bodies.Menu entries) = true
has_short_views (bodies.Board cap next) = true
has_short_views (bodies.Form board questions) = true
has_short_views (bodies.Search scope) = true
has_short_views (bodies.Moved target) = true
