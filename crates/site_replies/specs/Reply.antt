-- The reply to a request, by what stands at its selector. RFC 1436, sections 2 and 3.8; RFC 1738, section 3.4; the Gopher+ paper, section 2. The order of the tests is this project's profile.
use Rattle.std.specs.Prelude.{ℕ, Bool, true, false, ◌&&◌, List, [], ◌∷◌, ◌++◌, Option, Some, None, Result, Ok, Err, is_some, if◌then◌else◌, length, drop, map, filter, filter_map, nat_le, bytes_eq}
use Rattle.std.specs.List.{position}
use Rattle.host_types.specs.Names.{is_url_name}
use Rattle.host_types.specs.Site.{Site, post_selector, last_numbers, text_item}
use Rattle.host_types.specs.Change.{apply}
use Rattle.host_types.specs.Visible.{visible}
use Rattle.host_types.specs.Card.{card_of, card_at, viewed_at}
use Rattle.host_types.specs.Address.{address}
use Rattle.host_types.specs.declared.view.Kind.{Kind}
use Rattle.host_types.specs.declared.view.Kind.TheVariants as kinds
use Rattle.host_types.specs.declared.menu.Entry.{Entry}
use Rattle.host_types.specs.declared.menu.Entry.TheVariants as entries
use Rattle.host_types.specs.declared.form.Question.{Question}
use Rattle.host_types.specs.declared.card.Card.{Card}
use Rattle.host_types.specs.declared.card.CardView.{CardView}
use Rattle.host_types.specs.declared.card.CardBody.{CardBody}
use Rattle.host_types.specs.declared.card.CardBody.TheVariants as cards
use Rattle.host_types.specs.declared.change.Change.{Change}
use Rattle.host_types.specs.declared.change.Change.TheVariants.{Post}
use Rattle.common_types.specs.declared.refused.Refused.{Refused}
use Rattle.common_types.specs.declared.refused.Refused.TheVariants as refusals
use Rattle.text_writer.specs.Text.{text}
use Rattle.text_writer.specs.Menu.{item_line, entry_line, link_line, menu, is_moved}
use Rattle.text_writer.specs.Errors.{error_reply}
use Rattle.text_writer.specs.declared.error.ErrorText.{ErrorText}
use Rattle.text_writer.specs.declared.error.ErrorText.TheVariants as errors
use Rattle.plus_blocks.specs.Blocks.{text_head, length_head, info, item_blocks, attributes, entry_attributes}
use Rattle.url_page.specs.Page.{redirect}
use Rattle.ask_forms.specs.Reading.{read_by}
use Rattle.ask_forms.specs.Post.{post_title, post_text}
use Rattle.ask_forms.specs.declared.answer.Answer.{Answer}
use Rattle.ask_forms.specs.declared.ask_fault.AskFault.{AskFault}
use Rattle.ask_forms.specs.declared.ask_fault.AskFault.TheVariants as asks
use Rattle.word_search.specs.Search.{search_of}
use Rattle.request_reader.specs.Request.{Request, RequestedView, Plus, Fetch, Attributes, EntryAttributes}
use Rattle.request_reader.specs.declared.cause.Cause.{Cause}
use Rattle.request_reader.specs.declared.cause.Cause.TheVariants.{TooLong, NotUnderstood}

-- A reply with all of its bytes, and the post that it stores.
pub record WholeAnswer : Type 0 where
  pub bytes : List ℕ
  pub post : Option Change

-- ---- forms of replies

-- a client that asked by Gopher+ gets its error by Gopher+
abbrev pub error_reply_of : Bool → ErrorText → List ℕ
error_reply_of is_plus error = error_reply is_plus error []

-- Before text and menus, and before bytes, a Gopher+ fetch learns how the reply ends.
abbrev pub as_text : Bool → List ℕ → List ℕ
as_text is_plus body = if is_plus then text_head ++ body else body

abbrev pub as_bytes : Bool → List ℕ → List ℕ
as_bytes is_plus body = if is_plus then length_head (length body) ++ body else body

-- ---- links out of gopherspace

abbrev pub page_reply : Bool → Option (List ℕ) → List ℕ
page_reply is_plus None = error_reply_of is_plus errors.UrlNotAllowed
page_reply is_plus (Some page) = as_bytes is_plus page

-- such a link has no attributes
abbrev pub url_reply : Option Plus → List ℕ → List ℕ
url_reply None url = page_reply false (redirect url)
url_reply (Some (Fetch requested)) url = page_reply true (redirect url)
url_reply (Some (Attributes names)) url = error_reply_of true errors.ItemNotFound
url_reply (Some (EntryAttributes names)) url = error_reply_of true errors.ItemNotFound

-- ---- menus

-- the lines of the entries that give one
abbrev pub menu_of : Site → List Entry → List ℕ
menu_of s es = menu (filter_map (entry_line s) es)

abbrev pub menu_reply : Site → Bool → List Entry → List ℕ
menu_reply s is_plus es = as_text is_plus (menu_of s es)

-- A board lists its posts, newest first. A post's selector is a name, which has at most 255 bytes.
abbrev pub post_names : List ℕ → ℕ → ℕ → List (List ℕ)
post_names board cap next = filter (λ name. nat_le (length name) 255) (map (post_selector board) (last_numbers cap next))

abbrev pub locals : List (List ℕ) → List Entry
locals names = map (λ name. entries.Local name) names

-- ---- attributes

-- An item that clients find has all of its blocks; nothing, and what has moved, has none.
abbrev pub found_blocks : Site → List (List ℕ) → List ℕ → Option Card → Option (List ℕ)
found_blocks s names selector None = None
found_blocks s names selector (Some card) = if is_moved card.body then None else Some (item_blocks (address s) names selector card)

-- a link has its line alone
abbrev pub link_block : Option (List ℕ) → Option (List ℕ)
link_block None = None
link_block (Some line) = Some (info line)

abbrev pub entry_block : Site → List (List ℕ) → Entry → Option (List ℕ)
entry_block s names (entries.Local selector) = found_blocks s names selector (card_at s selector)
entry_block s names (entries.Info title) = link_block (link_line (address s) (entries.Info title))
entry_block s names (entries.Url title url) = link_block (link_line (address s) (entries.Url title url))
entry_block s names (entries.Remote kind title selector host port) = link_block (link_line (address s) (entries.Remote kind title selector host port))

abbrev pub attributes_of : Site → List (List ℕ) → List Entry → List ℕ
attributes_of s names es = entry_attributes (filter_map (entry_block s names) es)

-- menus and boards have entries
abbrev pub entries_reply : Site → List (List ℕ) → List ℕ → CardBody → List ℕ
entries_reply s names selector (cards.Menu es) = attributes_of s names es
entries_reply s names selector (cards.Board cap next) = attributes_of s names (locals (post_names selector cap next))
entries_reply s names selector (cards.Views kind views) = error_reply_of true errors.NotAMenu
entries_reply s names selector (cards.Form board questions) = error_reply_of true errors.NotAMenu
entries_reply s names selector (cards.Search scope) = error_reply_of true errors.NotAMenu
entries_reply s names selector (cards.Moved target) = error_reply_of true errors.NotAMenu

-- ---- documents

-- The kinds that are sent as lines and a period: text, BinHex and uuencoded files. RFC 1436, section 3.8.
abbrev pub is_sent_as_text : Kind → Bool
is_sent_as_text kinds.Text = true
is_sent_as_text kinds.BinHex = true
is_sent_as_text kinds.DosArchive = false
is_sent_as_text kinds.Uuencoded = true
is_sent_as_text kinds.Binary = false
is_sent_as_text kinds.Gif = false
is_sent_as_text kinds.Image = false
is_sent_as_text kinds.Html = false

abbrev pub sent : Bool → Kind → List ℕ → List ℕ
sent is_plus kind bytes = if is_sent_as_text kind then as_text is_plus (text bytes) else as_bytes is_plus bytes

abbrev pub is_language : Option (List ℕ) → CardView → Bool
is_language None view = true
is_language (Some language) view = bytes_eq view.language language

-- whatever comes first, or a view by its name, or by its name and language
abbrev pub is_requested : Option RequestedView → CardView → Bool
is_requested None view = true
is_requested (Some requested) view = bytes_eq view.name requested.name && is_language requested.language view

-- the bytes of the view at a place, where there is one
abbrev pub view_reply : Site → Bool → List ℕ → Kind → Option ℕ → List ℕ
view_reply s is_plus selector kind None = error_reply_of is_plus errors.ViewNotFound
view_reply s is_plus selector kind (Some place) = sent is_plus kind (viewed_at s selector place)

abbrev pub requested_of : Option Plus → Option RequestedView
requested_of None = None
requested_of (Some (Fetch requested)) = requested
requested_of (Some (Attributes names)) = None
requested_of (Some (EntryAttributes names)) = None

-- ---- items that have moved

-- where the item went, one step on
abbrev pub place_reply : Site → Bool → List ℕ → Card → List ℕ
place_reply s is_plus target card = if is_moved card.body then error_reply_of is_plus errors.ItemNotFound else error_reply is_plus errors.ItemHasMoved (item_line (address s) target card)

abbrev pub moved_reply : Site → Bool → List ℕ → Option Card → List ℕ
moved_reply s is_plus target None = error_reply_of is_plus errors.ItemNotFound
moved_reply s is_plus target (Some card) = place_reply s is_plus target card

-- ---- posts

abbrev pub without_post : List ℕ → WholeAnswer
without_post bytes = record { bytes = bytes; post = None }

abbrev pub refusal_text : Refused → ErrorText
refusal_text refusals.Spent = errors.BoardIsFull
refusal_text refusals.NotABoard = errors.BoardNotFound
-- no other comes of a form
refusal_text other = errors.AnswersDoNotFit

-- the number of the next post of a board
abbrev pub number_in : CardBody → ℕ
number_in (cards.Board cap next) = next
number_in (cards.Views kind views) = 0
number_in (cards.Menu es) = 0
number_in (cards.Form board questions) = 0
number_in (cards.Search scope) = 0
number_in (cards.Moved target) = 0

abbrev pub number_of : Option Card → ℕ
number_of None = 0
number_of (Some card) = number_in card.body

-- A post that is stored is answered by the menu of its one line.
abbrev pub stored_reply : Site → ℕ → List ℕ → List ℕ → List ℕ → WholeAnswer
stored_reply s now board title body = record {
  bytes = text_head ++ menu (item_line (address s) (post_selector board (number_of (card_at s board))) (card_of (text_item title now body)) ∷ []);
  post = Some (Post board title body);
}

abbrev pub posted_reply : Site → ℕ → List ℕ → List ℕ → List ℕ → Result Site Refused → WholeAnswer
posted_reply s now board title body (Ok after) = stored_reply s now board title body
posted_reply s now board title body (Err refused) = without_post (error_reply_of true (refusal_text refused))

abbrev pub post_reply : Site → ℕ → List ℕ → List ℕ → List ℕ → WholeAnswer
post_reply s now board title body = posted_reply s now board title body (apply s (Post board title body) now)

abbrev pub fault_text : AskFault → ErrorText
fault_text asks.WrongAnswers = errors.AnswersDoNotFit
fault_text asks.WrongWord = errors.WrongWord
-- no reading of lines gives it
fault_text asks.Memory = errors.AnswersDoNotFit

-- answers whose post is answered so
abbrev pub answers_by : (List ℕ → List ℕ → WholeAnswer) → List Question → Result (List Answer) AskFault → WholeAnswer
answers_by posted questions (Ok answers) = posted (post_title questions answers) (post_text questions answers)
answers_by posted questions (Err fault) = without_post (error_reply_of true (fault_text fault))

-- a form, whose post is answered so
abbrev pub form_by : (List ℕ → List ℕ → WholeAnswer) → Bool → List Question → Option (List (List ℕ)) → WholeAnswer
form_by posted is_plus questions None = without_post (error_reply_of is_plus errors.FormNeedsAnswers)
form_by posted is_plus questions (Some lines) = answers_by posted questions (read_by questions lines)

abbrev pub form_reply : Site → Bool → ℕ → List ℕ → List Question → Option (List (List ℕ)) → WholeAnswer
form_reply s is_plus now board questions lines = form_by (post_reply s now board) is_plus questions lines

-- ---- the reply

abbrev pub words_asked : Option (List ℕ) → List ℕ
words_asked None = []
words_asked (Some words) = words

-- By what stands at the selector, and what is asked of it. A moved item is reported before attributes are scanned.
abbrev pub card_reply : Site → Request → ℕ → Card → CardBody → Option Plus → WholeAnswer
card_reply s r now card (cards.Moved target) plus = without_post (moved_reply s (is_some plus) target (card_at s target))
card_reply s r now card body (Some (Attributes names)) = without_post (attributes (address s) names r.selector card)
card_reply s r now card body (Some (EntryAttributes names)) = without_post (entries_reply s names r.selector body)
card_reply s r now card (cards.Form board questions) plus = form_reply s (is_some plus) now board questions r.lines
card_reply s r now card (cards.Views kind views) plus = without_post (view_reply s (is_some plus) r.selector kind (position (is_requested (requested_of plus)) views))
card_reply s r now card (cards.Menu es) plus = without_post (menu_reply s (is_some plus) es)
card_reply s r now card (cards.Board cap next) plus = without_post (menu_reply s (is_some plus) (locals (post_names r.selector cap next)))
card_reply s r now card (cards.Search scope) plus = without_post (menu_reply s (is_some plus) (locals (search_of s scope (words_asked r.search))))

-- nothing may stand there
abbrev pub found_reply : Site → Request → ℕ → Option Card → WholeAnswer
found_reply s r now None = without_post (error_reply_of (is_some r.plus) errors.ItemNotFound)
found_reply s r now (Some card) = card_reply s r now card card.body r.plus

-- Of a site in which nothing has expired. Links out of gopherspace are known by their names, before any look-up.
unfoldable pub reply_of : Site → Request → ℕ → WholeAnswer
reply_of s r now =
    if is_url_name r.selector then without_post (url_reply r.plus (drop 4 r.selector))
    else found_reply s r now (card_at s r.selector)

-- as if the items that have expired weren't there
abbrev pub reply : Site → Request → ℕ → WholeAnswer
reply s r now = reply_of (visible s now) r now

-- a request that is none is answered in the plain form
abbrev pub bad_reply : Cause → List ℕ
bad_reply TooLong = error_reply_of false errors.RequestTooLong
bad_reply NotUnderstood = error_reply_of false errors.RequestNotUnderstood
