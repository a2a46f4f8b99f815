-- The reply to a request once some posts are made, by the site as it stands before them.
use Rattle.std.specs.Prelude.{◌≡◌, ℕ, ◌+◌, ◌-◌, ◌^◌, Bool, true, false, ◌&&◌, List, [], ◌∷◌, Option, Some, None, is_some, Result, IfOk, if◌then◌else◌, drop, length, min, nat_lt, bytes_eq}
use Rattle.std.specs.Option.{option_map}
use Rattle.host_types.specs.AllChanges.{Changes}
use Rattle.host_types.specs.Names.{is_url_name}
use Rattle.host_types.specs.Site.{Site}
use Rattle.host_types.specs.Change.{most_post_bytes}
use Rattle.host_types.specs.Visible.{visible}
use Rattle.host_types.specs.Card.{card_at, viewed_at}
use Rattle.host_types.specs.Address.{address}
use Rattle.host_types.specs.declared.form.Question.{Question}
use Rattle.host_types.specs.declared.card.Card.{Card}
use Rattle.host_types.specs.declared.card.CardBody.{CardBody}
use Rattle.host_types.specs.declared.card.CardBody.TheVariants as cards
use Rattle.host_types.specs.declared.change.Change.{Change}
use Rattle.host_types.specs.declared.change.Change.TheVariants.{Put, Remove, Move, SetHost, SetAdmin, Post}
use Rattle.text_writer.specs.declared.error.ErrorText.TheVariants as errors
use Rattle.request_reader.specs.Request.{Request, Plus, Fetch}
use Rattle.site_replies.specs.Reply.{WholeAnswer, without_post, error_reply_of, url_reply, form_by, card_reply, found_reply}
use Rattle.site_replies.specs.PostReply.{reply_by_card}
use Rattle.site_replies.specs.Lengths.{HasLengths}
use Rattle.site_replies.specs.Replies.{answer_of}
use Rattle.site_replies.specs.declared.answered.Answered.{Answered}

-- ---- posts, and how many are on a board

abbrev pub is_post : Change → Bool
is_post (Put selector item) = false
is_post (Remove selector) = false
is_post (Move from to) = false
is_post (SetHost host port) = false
is_post (SetAdmin admin) = false
is_post (Post board title text) = true

abbrev pub are_posts : Changes → Bool
are_posts [] = true
are_posts (c ∷ changes) = is_post c.0 && are_posts changes

-- one, where a change is a post on this board
abbrev pub one_on : List ℕ → Change → ℕ
one_on q (Put selector item) = 0
one_on q (Remove selector) = 0
one_on q (Move from to) = 0
one_on q (SetHost host port) = 0
one_on q (SetAdmin admin) = 0
one_on q (Post board title text) = if bytes_eq q board then 1 else 0

abbrev pub posts_on : List ℕ → Changes → ℕ
posts_on q [] = 0
posts_on q (c ∷ changes) = one_on q c.0 + posts_on q changes

-- ---- a board that has counted on by so many

-- A board counts up to the greatest number, and is full then.
abbrev pub counted_number : ℕ → ℕ → ℕ
counted_number n next = next + min n (2 ^ 64 - 1 - next)

abbrev pub counted_body : ℕ → CardBody → CardBody
counted_body n (cards.Views kind views) = cards.Views kind views
counted_body n (cards.Menu es) = cards.Menu es
counted_body n (cards.Board cap next) = cards.Board cap (counted_number n next)
counted_body n (cards.Form board questions) = cards.Form board questions
counted_body n (cards.Search scope) = cards.Search scope
counted_body n (cards.Moved target) = cards.Moved target

abbrev pub counted_card : ℕ → Card → Card
counted_card n card = record { title = card.title; stamp = card.stamp; until = card.until; summary = card.summary; body = counted_body n card.body }

-- ---- the reply

-- a post, by the card of its board, counted on by the posts on it before
unfoldable pub later_post_reply : Site → Changes → ℕ → List ℕ → List ℕ → List ℕ → WholeAnswer
later_post_reply s before now board title body =
    if nat_lt most_post_bytes (length body) then without_post (error_reply_of true errors.AnswersDoNotFit)
    else reply_by_card (address s) now board title body (option_map (counted_card (posts_on board before)) (card_at s board))

abbrev pub later_form_reply : Site → Changes → Request → ℕ → List ℕ → List Question → WholeAnswer
later_form_reply s before r now board questions = form_by (later_post_reply s before now board) (is_some r.plus) questions r.lines

-- A form that is asked for no attributes; to all else the posts are nothing.
abbrev pub later_card_reply : Site → Changes → Request → ℕ → Card → CardBody → Option Plus → WholeAnswer
later_card_reply s before r now card (cards.Form board questions) None = later_form_reply s before r now board questions
later_card_reply s before r now card (cards.Form board questions) (Some (Fetch requested)) = later_form_reply s before r now board questions
later_card_reply s before r now card body plus = card_reply s r now card body plus

abbrev pub later_found_reply : Site → Changes → Request → ℕ → Option Card → WholeAnswer
later_found_reply s before r now None = found_reply s r now None
later_found_reply s before r now (Some card) = later_card_reply s before r now card card.body r.plus

-- the answer is the reply by the card of what stands at the selector
abbrev pub IsReplyByCard : {E : Type 0} → Site → Changes → Request → ℕ → List ℕ → Card → Result Answered E → Type 0
IsReplyByCard s before r now selector card result =
    selector ≡ r.selector → HasLengths card.body (viewed_at s selector) → IfOk result (λ answered. answer_of s answered ≡ later_card_reply s before r now card card.body r.plus)

-- of a site in which nothing has expired
unfoldable pub later_reply_of : Site → Changes → Request → ℕ → WholeAnswer
later_reply_of s before r now =
    if is_url_name r.selector then without_post (url_reply r.plus (drop 4 r.selector))
    else later_found_reply s before r now (card_at s r.selector)

-- the reply to a request once these posts are made, by the site as it stands before them
abbrev pub later_reply : Site → Changes → Request → ℕ → WholeAnswer
later_reply s before r now = later_reply_of (visible s now) before r now
