-- The reply to a post by the card of its board, and which posts are right.
use Rattle.std.specs.Prelude.{ℕ, ◌-◌, ◌^◌, ◌==◌, true, List, [], ◌∷◌, ◌++◌, Option, Some, None, IsOk, if◌then◌else◌}
use Rattle.host_types.specs.Site.{Site, post_selector, text_item}
use Rattle.host_types.specs.Change.{apply}
use Rattle.host_types.specs.Card.{card_of}
use Rattle.host_types.specs.Address.{Address}
use Rattle.host_types.specs.declared.card.Card.{Card}
use Rattle.host_types.specs.declared.card.CardBody.{CardBody}
use Rattle.host_types.specs.declared.card.CardBody.TheVariants as cards
use Rattle.host_types.specs.declared.change.Change.{Change}
use Rattle.host_types.specs.declared.change.Change.TheVariants.{Post}
use Rattle.text_writer.specs.Menu.{item_line, menu}
use Rattle.text_writer.specs.declared.error.ErrorText.TheVariants as errors
use Rattle.plus_blocks.specs.Blocks.{text_head}
use Rattle.site_replies.specs.Reply.{WholeAnswer, without_post, error_reply_of}

-- the post n is stored
abbrev pub stored_as : Address → ℕ → List ℕ → ℕ → List ℕ → List ℕ → WholeAnswer
stored_as a now board n title body = record {
  bytes = text_head ++ menu (item_line a (post_selector board n) (card_of (text_item title now body)) ∷ []);
  post = Some (Post board title body);
}

abbrev pub reply_by_body : Address → ℕ → List ℕ → List ℕ → List ℕ → CardBody → WholeAnswer
reply_by_body a now board title body (cards.Board cap next) = if next == 2 ^ 64 - 1 then without_post (error_reply_of true errors.BoardIsFull) else stored_as a now board next title body
reply_by_body a now board title body (cards.Views kind views) = without_post (error_reply_of true errors.BoardNotFound)
reply_by_body a now board title body (cards.Menu es) = without_post (error_reply_of true errors.BoardNotFound)
reply_by_body a now board title body (cards.Form on questions) = without_post (error_reply_of true errors.BoardNotFound)
reply_by_body a now board title body (cards.Search scope) = without_post (error_reply_of true errors.BoardNotFound)
reply_by_body a now board title body (cards.Moved target) = without_post (error_reply_of true errors.BoardNotFound)

abbrev pub reply_by_card : Address → ℕ → List ℕ → List ℕ → List ℕ → Option Card → WholeAnswer
reply_by_card a now board title body None = without_post (error_reply_of true errors.BoardNotFound)
reply_by_card a now board title body (Some card) = reply_by_body a now board title body card.body

-- a post is one that the site takes
abbrev pub IsRight : Site → ℕ → Option Change → Type 0
IsRight site now None = Unit {0}
IsRight site now (Some change) = IsOk (apply site change now)
