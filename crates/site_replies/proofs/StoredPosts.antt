-- A reply that stores a post stores one that the site takes.
use Rattle.std.proofs.Common.{◌≡◌, ℕ, ◌-◌, ◌^◌, ◌==◌, Bool, true, false, cond, List, length, refl, sym, subst, inl, inr}
use Rattle.std.specs.Prelude.{Option, Some, None, Result, Ok, Err, IsOk}
use Rattle.std.proofs.lemmas.Bool.{cases_Bool}
use Rattle.host_types.specs.Names.{is_url_name}
use Rattle.std.specs.Prelude.{nat_lt}
use Rattle.host_types.specs.Site.{Site, item_at, board_of}
use Rattle.host_types.specs.Change.{most_post_bytes, oldest_post, without_any, with_post, post_on, post_at, post, apply}
use Rattle.host_types.specs.Visible.{is_over, visible, unless_expired, item_at-visible}
use Rattle.host_types.specs.declared.item.Item.{Item}
use Rattle.host_types.specs.Card.{card_at}
use Rattle.host_types.specs.declared.card.Card.{Card}
use Rattle.host_types.specs.declared.card.CardBody.{CardBody}
use Rattle.host_types.specs.declared.card.CardBody.TheVariants as cards
use Rattle.host_types.specs.declared.change.Change.TheVariants.{Post}
use Rattle.host_types.specs.declared.form.Question.{Question}
use Rattle.common_types.specs.declared.refused.Refused.{Refused}
use Rattle.common_types.specs.declared.refused.Refused.TheVariants as refusals
use Rattle.ask_forms.specs.Reading.{read_by}
use Rattle.ask_forms.specs.declared.answer.Answer.{Answer}
use Rattle.ask_forms.specs.declared.ask_fault.AskFault.{AskFault}
use Rattle.ask_forms.specs.Post.{post_title, post_text}
use Rattle.request_reader.specs.Request.{Request, Plus, Fetch, Attributes, EntryAttributes}
use Rattle.site_replies.specs.Reply.{posted_reply, post_reply, answers_by, form_reply, card_reply, found_reply, reply_of, reply}
use Rattle.site_replies.specs.PostReply.{IsRight}

-- a post that a site takes in which the expired items aren't there is taken with them
taken_on : (s t : Site) (board : List ℕ) (item : Item) (b : Option (ℕ × ℕ)) (title text : List ℕ) (now : ℕ) (after : Site) → post_on s board item b title text now ≡ Ok after → IsOk (post_on t board item b title text now)
taken_on s t board item None title text now after is = absurd (cc is)
taken_on s t board item (Some b) title text now after is =
    elim (b.1 == 2 ^ 64 - 1) as (λ full. cond full (Err refusals.Spent) (Ok (without_any (with_post s board item b.0 b.1 title text now) (oldest_post board b.0 b.1))) ≡ Ok after
    → IsOk (cond full (Err refusals.Spent) (Ok (without_any (with_post t board item b.0 b.1 title text now) (oldest_post board b.0 b.1))))) [
      | true ↦ λ e. absurd (cc e)
      | false ↦ λ e. refl
    ] is

taken_at : (s t : Site) (board : List ℕ) (o : Option Item) (title text : List ℕ) (now : ℕ) (after : Site) → post_at s board (unless_expired o now) title text now ≡ Ok after → IsOk (post_at t board o title text now)
taken_at s t board None title text now after is = absurd (cc is)
taken_at s t board (Some item) title text now after is =
    elim (is_over item.until now) as (λ b. post_at s board (cond b None (Some item)) title text now ≡ Ok after → IsOk (post_on t board item (board_of item.body) title text now)) [
      | true ↦ λ e. absurd (cc e)
      | false ↦ λ e. taken_on s t board item (board_of item.body) title text now after e
    ] is

taken_too : (s : Site) (now : ℕ) (board title text : List ℕ) (after : Site) → apply (visible s now) (Post board title text) now ≡ Ok after → IsOk (apply s (Post board title text) now)
unfolding post
taken_too s now board title text after is =
    elim (nat_lt most_post_bytes (length text)) as (λ b. cond b (Err refusals.TooLong) (post_at (visible s now) board (item_at (visible s now) board) title text now) ≡ Ok after
    → IsOk (cond b (Err refusals.TooLong) (post_at s board (item_at s board) title text now))) [
      | true ↦ λ e. absurd (cc e)
      | false ↦ λ e. taken_at (visible s now) s board (item_at s board) title text now after (subst (λ (o : Option Item). post_at (visible s now) board o title text now ≡ Ok after) (item_at-visible s now board) e)
    ] is

by_apply : (s : Site) (now : ℕ) (board title text : List ℕ) (made : Result Site Refused) → apply (visible s now) (Post board title text) now ≡ made → IsRight s now (posted_reply (visible s now) now board title text made).post
by_apply s now board title text (Ok after) is = taken_too s now board title text after is
by_apply s now board title text (Err refused) is = tt

post_right : (s : Site) (now : ℕ) (board title text : List ℕ) → IsRight s now (post_reply (visible s now) now board title text).post
post_right s now board title text = by_apply s now board title text (apply (visible s now) (Post board title text) now) refl

answers_right : (s : Site) (now : ℕ) (board : List ℕ) (questions : List Question) (read : Result (List Answer) AskFault) → IsRight s now (answers_by (post_reply (visible s now) now board) questions read).post
answers_right s now board questions (Ok answers) = post_right s now board (post_title questions answers) (post_text questions answers)
answers_right s now board questions (Err fault) = tt

form_right : (s : Site) (is_plus : Bool) (now : ℕ) (board : List ℕ) (questions : List Question) (lines : Option (List (List ℕ))) → IsRight s now (form_reply (visible s now) is_plus now board questions lines).post
form_right s is_plus now board questions None = tt
form_right s is_plus now board questions (Some lines) = answers_right s now board questions (read_by questions lines)

card_right : (s : Site) (r : Request) (now : ℕ) (card : Card) (body : CardBody) (plus : Option Plus) → IsRight s now (card_reply (visible s now) r now card body plus).post
card_right s r now card (cards.Moved target) plus = tt
card_right s r now card (cards.Form board questions) None = form_right s false now board questions r.lines
card_right s r now card (cards.Form board questions) (Some (Fetch requested)) = form_right s true now board questions r.lines
card_right s r now card (cards.Form board questions) (Some (Attributes names)) = tt
card_right s r now card (cards.Form board questions) (Some (EntryAttributes names)) = tt
card_right s r now card (cards.Views kind views) None = tt
card_right s r now card (cards.Views kind views) (Some (Fetch requested)) = tt
card_right s r now card (cards.Views kind views) (Some (Attributes names)) = tt
card_right s r now card (cards.Views kind views) (Some (EntryAttributes names)) = tt
card_right s r now card (cards.Menu es) None = tt
card_right s r now card (cards.Menu es) (Some (Fetch requested)) = tt
card_right s r now card (cards.Menu es) (Some (Attributes names)) = tt
card_right s r now card (cards.Menu es) (Some (EntryAttributes names)) = tt
card_right s r now card (cards.Board most next) None = tt
card_right s r now card (cards.Board most next) (Some (Fetch requested)) = tt
card_right s r now card (cards.Board most next) (Some (Attributes names)) = tt
card_right s r now card (cards.Board most next) (Some (EntryAttributes names)) = tt
card_right s r now card (cards.Search scope) None = tt
card_right s r now card (cards.Search scope) (Some (Fetch requested)) = tt
card_right s r now card (cards.Search scope) (Some (Attributes names)) = tt
card_right s r now card (cards.Search scope) (Some (EntryAttributes names)) = tt

found_right : (s : Site) (r : Request) (now : ℕ) (card : Option Card) → IsRight s now (found_reply (visible s now) r now card).post
found_right s r now None = tt
found_right s r now (Some card) = card_right s r now card card.body r.plus

pub reply_right : (s : Site) (r : Request) (now : ℕ) → IsRight s now (reply s r now).post
unfolding reply_of
reply_right s r now =
    elim (cases_Bool (is_url_name r.selector)) [
      | inl link ↦ rw link tt
      | inr here ↦ rw here (found_right s r now (card_at (visible s now) r.selector))
    ]
