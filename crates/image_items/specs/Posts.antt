-- What is printed of the posts of a board.
use Rattle.std.specs.Prelude.{ℕ, List, [], Option, Some, None, Result, Ok, Err, flat_map, reverse}
use Rattle.host_types.specs.Site.{Site}
use Rattle.host_types.specs.Card.{card_at}
use Rattle.host_types.specs.declared.card.Card.{Card}
use Rattle.host_types.specs.declared.card.CardBody.{CardBody}
use Rattle.host_types.specs.declared.card.CardBody.TheVariants as cards
use Rattle.site_replies.specs.Reply.{post_names}
use Rattle.image_commands.specs.Listing.{listed_line}
use Rattle.image_items.specs.declared.fault.ItemFault.{ItemFault}
use Rattle.image_items.specs.declared.fault.ItemFault.TheVariants as faults

-- the line of what stands at a selector, where something does
abbrev pub line_if_any : List ℕ → Option Card → List ℕ
line_if_any selector None = []
line_if_any selector (Some card) = listed_line selector card

abbrev pub line_at : Site → List ℕ → List ℕ
line_at s selector = line_if_any selector (card_at s selector)

-- the names of the posts that a board may have, newest last
abbrev pub names_of_posts : List ℕ → ℕ → ℕ → List (List ℕ)
names_of_posts board cap next = reverse (post_names board cap next)

abbrev pub posts_by : Site → List ℕ → CardBody → Result (List ℕ) ItemFault
posts_by s board (cards.Board cap next) = Ok (flat_map (line_at s) (names_of_posts board cap next))
posts_by s board (cards.Views kind views) = Err faults.NoBoard
posts_by s board (cards.Menu entries) = Err faults.NoBoard
posts_by s board (cards.Form target questions) = Err faults.NoBoard
posts_by s board (cards.Search scope) = Err faults.NoBoard
posts_by s board (cards.Moved target) = Err faults.NoBoard

abbrev pub posts_in : Site → List ℕ → Option Card → Result (List ℕ) ItemFault
posts_in s board None = Err faults.NotFound
posts_in s board (Some card) = posts_by s board card.body

-- the lines of the posts of the board at a selector, of those that are there, newest last; or why there are none
abbrev pub posts_at : Site → List ℕ → Result (List ℕ) ItemFault
posts_at s board = posts_in s board (card_at s board)
