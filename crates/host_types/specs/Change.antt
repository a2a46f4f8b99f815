-- Applying a change to a site: the new site, or the first refusal.
use Rattle.std.specs.Prelude.{ℕ, ◌+◌, ◌-◌, ◌^◌, Bool, true, false, List, [], ◌∷◌, length, nat_lt, ◌&&◌, ◌||◌, ◌==◌, not, bytes_eq, Option, Some, None, is_some, is_none, Result, Ok, Err, option_to_list, if◌then◌else◌}
use Rattle.host_types.specs.Items.{is_bad_body, is_long_item}
use Rattle.host_types.specs.Site.{Site, item_at, with_item, without_item, post_selector, board_of, board_at, has_posts, text_item}
use Rattle.common_types.specs.Names.{is_reserved}
use Rattle.common_types.specs.declared.refused.Refused.{Refused}
use Rattle.common_types.specs.declared.refused.Refused.TheVariants as refusals
use Rattle.host_types.specs.declared.item.Item.{Item}
use Rattle.host_types.specs.declared.item.Body.{Body}
use Rattle.host_types.specs.declared.item.Body.TheVariants as bodies
use Rattle.host_types.specs.declared.change.Change.{Change}
use Rattle.host_types.specs.declared.change.Change.TheVariants as changes

abbrev pub is_empty : List ℕ → Bool
is_empty bytes = length bytes == 0

-- the first of some refusals whose test passes, or else the site
infixr 5 ◌when◌else◌
abbrev pub ◌when◌else◌ : Refused → Bool → Result Site Refused → Result Site Refused
refused when b else rest = if b then Err refused else rest

abbrev pub is_menu : Body → Bool
is_menu (bodies.Views kind views) = false
is_menu (bodies.Menu entries) = true
is_menu (bodies.Board cap next) = false
is_menu (bodies.Form board questions) = false
is_menu (bodies.Search scope) = false
is_menu (bodies.Moved target) = false

abbrev pub is_moved : Body → Bool
is_moved (bodies.Views kind views) = false
is_moved (bodies.Menu entries) = false
is_moved (bodies.Board cap next) = false
is_moved (bodies.Form board questions) = false
is_moved (bodies.Search scope) = false
is_moved (bodies.Moved target) = true

-- the new body is a board of the cap of the old one
abbrev pub keeps_cap : Option (ℕ × ℕ) → Option (ℕ × ℕ) → Bool
keeps_cap None new = false
keeps_cap (Some old) None = false
keeps_cap (Some old) (Some new) = old.0 == new.0

-- the number of the next post of a board that takes the place of what was there
abbrev pub next_after_put : Option (ℕ × ℕ) → ℕ
next_after_put None = 1
next_after_put (Some old) = old.1

-- a board over a board goes on counting, whatever the given body says; else it counts from 1
abbrev pub body_put : Option (ℕ × ℕ) → Body → Body
body_put old (bodies.Views kind views) = bodies.Views kind views
body_put old (bodies.Menu entries) = bodies.Menu entries
body_put old (bodies.Board cap next) = bodies.Board cap (next_after_put old)
body_put old (bodies.Form board questions) = bodies.Form board questions
body_put old (bodies.Search scope) = bodies.Search scope
body_put old (bodies.Moved target) = bodies.Moved target

abbrev pub item_put : Option (ℕ × ℕ) → Item → ℕ → Item
item_put old item now = record { title = item.title; stamp = now; until = item.until; summary = item.summary; body = body_put old item.body }

unfoldable pub put : Site → List ℕ → Item → ℕ → Result Site Refused
put s selector item now =
    refusals.Root when is_empty selector && (not (is_menu item.body) || is_some item.until) else
    refusals.Reserved when is_reserved selector || is_moved item.body else
    refusals.BadName when is_bad_body item.body else
    refusals.TooLong when is_long_item selector item else
    refusals.NotEmpty when has_posts s selector && not (keeps_cap (board_at s selector) (board_of item.body)) else
    Ok (with_item s selector (item_put (board_at s selector) item now))

unfoldable pub remove : Site → List ℕ → Result Site Refused
remove s selector =
    refusals.Root when is_empty selector else
    refusals.Missing when is_none (item_at s selector) else
    refusals.NotEmpty when has_posts s selector else
    Ok (without_item s selector)

abbrev pub moved_item : Item → List ℕ → ℕ → Item
moved_item item to now = record { title = item.title; stamp = now; until = None; summary = []; body = bodies.Moved to }

-- what may be moved, and is there
abbrev pub movable : Option Item → Option Item
movable None = None
movable (Some item) = if is_moved item.body then None else Some item

abbrev pub move_item : Site → List ℕ → List ℕ → ℕ → Option Item → Result Site Refused
move_item s from to now None = Err refusals.Missing
move_item s from to now (Some item) =
    refusals.TooLong when is_some (board_of item.body) && nat_lt 229 (length to) else
    refusals.NotEmpty when has_posts s from || has_posts s to else
    Ok (with_item (with_item s to item) from (moved_item item to now))

unfoldable pub move_to : Site → List ℕ → List ℕ → ℕ → Result Site Refused
move_to s from to now =
    refusals.Root when is_empty from || is_empty to else
    refusals.Reserved when is_reserved from || is_reserved to else
    refusals.BadName when bytes_eq from to else
    move_item s from to now (movable (item_at s from))

abbrev pub set_host : Site → List ℕ → ℕ → Result Site Refused
set_host s host port = refusals.BadName when port == 0 else Ok (record s { host = host; port = port })

abbrev pub set_admin : Site → List ℕ → Result Site Refused
set_admin s admin = Ok (record s { admin = admin })

-- the most bytes of a post's text
unfoldable pub most_post_bytes : ℕ
most_post_bytes = 65536

-- the board after its post n
abbrev pub board_after : Item → ℕ → ℕ → ℕ → Item
board_after item cap n now = record { title = item.title; stamp = now; until = item.until; summary = item.summary; body = bodies.Board cap (n + 1) }

-- the selector of the post that the post n pushes out
abbrev pub oldest_post : List ℕ → ℕ → ℕ → Option (List ℕ)
oldest_post board cap n = if nat_lt cap n then Some (post_selector board (n - cap)) else None

abbrev pub without_any : Site → Option (List ℕ) → Site
without_any s None = s
without_any s (Some selector) = without_item s selector

-- the site with the post n on its board
abbrev pub with_post : Site → List ℕ → Item → ℕ → ℕ → List ℕ → List ℕ → ℕ → Site
with_post s board item cap n title text now = with_item (with_item s (post_selector board n) (text_item title now text)) board (board_after item cap n now)

abbrev pub post_on : Site → List ℕ → Item → Option (ℕ × ℕ) → List ℕ → List ℕ → ℕ → Result Site Refused
post_on s board item None title text now = Err refusals.NotABoard
post_on s board item (Some b) title text now =
    refusals.Spent when b.1 == 2 ^ 64 - 1 else
    Ok (without_any (with_post s board item b.0 b.1 title text now) (oldest_post board b.0 b.1))

abbrev pub post_at : Site → List ℕ → Option Item → List ℕ → List ℕ → ℕ → Result Site Refused
post_at s board None title text now = Err refusals.NotABoard
post_at s board (Some item) title text now = post_on s board item (board_of item.body) title text now

unfoldable pub post : Site → List ℕ → List ℕ → List ℕ → ℕ → Result Site Refused
post s board title text now =
    refusals.TooLong when nat_lt most_post_bytes (length text) else
    post_at s board (item_at s board) title text now

abbrev pub apply : Site → Change → ℕ → Result Site Refused
apply s (changes.Put selector item) now = put s selector item now
apply s (changes.Remove selector) now = remove s selector
apply s (changes.Move from to) now = move_to s from to now
apply s (changes.SetHost host port) now = set_host s host port
apply s (changes.SetAdmin admin) now = set_admin s admin
apply s (changes.Post board title text) now = post s board title text now

-- ---- what a change touches

-- the selectors of a board's post n: the board, the post, and the post that it pushes out
abbrev pub touched_by_post : List ℕ → Option (ℕ × ℕ) → List (List ℕ)
touched_by_post board None = []
touched_by_post board (Some b) = board ∷ post_selector board b.1 ∷ option_to_list (oldest_post board b.0 b.1)

-- the selectors at which a change changes something
abbrev pub touched : Site → Change → List (List ℕ)
touched s (changes.Put selector item) = selector ∷ []
touched s (changes.Remove selector) = selector ∷ []
touched s (changes.Move from to) = from ∷ to ∷ []
touched s (changes.SetHost host port) = []
touched s (changes.SetAdmin admin) = []
touched s (changes.Post board title text) = touched_by_post board (board_at s board)
