-- What a reply stores is a post.
use Rattle.std.proofs.Common.{◌≡◌, ℕ, Bool, true, false, List, [], ◌∷◌, ◌++◌, refl, inl, inr}
use Rattle.std.specs.Prelude.{◌&&◌, Option, Some, None, Result, Ok, Err}
use Rattle.std.proofs.lemmas.Bool.{cases_Bool}
use Rattle.host_types.specs.AllChanges.{Changes}
use Rattle.host_types.specs.Names.{is_url_name}
use Rattle.host_types.specs.Site.{Site}
use Rattle.host_types.specs.Change.{apply}
use Rattle.host_types.specs.Visible.{visible}
use Rattle.host_types.specs.Card.{card_at}
use Rattle.host_types.specs.declared.card.Card.{Card}
use Rattle.host_types.specs.declared.card.CardBody.{CardBody}
use Rattle.host_types.specs.declared.card.CardBody.TheVariants as cards
use Rattle.host_types.specs.declared.change.Change.{Change}
use Rattle.host_types.specs.declared.change.Change.TheVariants.{Post}
use Rattle.host_types.specs.declared.form.Question.{Question}
use Rattle.common_types.specs.declared.refused.Refused.{Refused}
use Rattle.ask_forms.specs.Reading.{read_by}
use Rattle.ask_forms.specs.Post.{post_title, post_text}
use Rattle.ask_forms.specs.declared.answer.Answer.{Answer}
use Rattle.ask_forms.specs.declared.ask_fault.AskFault.{AskFault}
use Rattle.request_reader.specs.Request.{Request, Plus, Fetch, Attributes, EntryAttributes}
use Rattle.site_replies.specs.Reply.{posted_reply, post_reply, answers_by, form_reply, card_reply, found_reply, reply_of, reply}
use Rattle.site_replies.specs.LaterReply.{is_post, are_posts}
use Rattle.group_world.specs.Step.{at_moment}

abbrev pub IsPosted : Option Change → Type 0
IsPosted None = Unit {0}
IsPosted (Some change) = is_post change ≡ true

posted : (s : Site) (now : ℕ) (board title text : List ℕ) (r : Result Site Refused) → IsPosted (posted_reply s now board title text r).post
posted s now board title text (Ok after) = refl
posted s now board title text (Err refused) = tt

answers_posted : (s : Site) (now : ℕ) (board : List ℕ) (questions : List Question) (read : Result (List Answer) AskFault) → IsPosted (answers_by (post_reply s now board) questions read).post
answers_posted s now board questions (Ok answers) = posted s now board (post_title questions answers) (post_text questions answers) (apply s (Post board (post_title questions answers) (post_text questions answers)) now)
answers_posted s now board questions (Err fault) = tt

form_posted : (s : Site) (is_plus : Bool) (now : ℕ) (board : List ℕ) (questions : List Question) (lines : Option (List (List ℕ))) → IsPosted (form_reply s is_plus now board questions lines).post
form_posted s is_plus now board questions None = tt
form_posted s is_plus now board questions (Some lines) = answers_posted s now board questions (read_by questions lines)

card_posted : (s : Site) (r : Request) (now : ℕ) (card : Card) (body : CardBody) (plus : Option Plus) → IsPosted (card_reply s r now card body plus).post
card_posted s r now card (cards.Moved target) plus = tt
card_posted s r now card (cards.Form board questions) None = form_posted s false now board questions r.lines
card_posted s r now card (cards.Form board questions) (Some (Fetch requested)) = form_posted s true now board questions r.lines
card_posted s r now card (cards.Form board questions) (Some (Attributes names)) = tt
card_posted s r now card (cards.Form board questions) (Some (EntryAttributes names)) = tt
card_posted s r now card (cards.Views kind views) None = tt
card_posted s r now card (cards.Views kind views) (Some (Fetch requested)) = tt
card_posted s r now card (cards.Views kind views) (Some (Attributes names)) = tt
card_posted s r now card (cards.Views kind views) (Some (EntryAttributes names)) = tt
card_posted s r now card (cards.Menu es) None = tt
card_posted s r now card (cards.Menu es) (Some (Fetch requested)) = tt
card_posted s r now card (cards.Menu es) (Some (Attributes names)) = tt
card_posted s r now card (cards.Menu es) (Some (EntryAttributes names)) = tt
card_posted s r now card (cards.Board most next) None = tt
card_posted s r now card (cards.Board most next) (Some (Fetch requested)) = tt
card_posted s r now card (cards.Board most next) (Some (Attributes names)) = tt
card_posted s r now card (cards.Board most next) (Some (EntryAttributes names)) = tt
card_posted s r now card (cards.Search scope) None = tt
card_posted s r now card (cards.Search scope) (Some (Fetch requested)) = tt
card_posted s r now card (cards.Search scope) (Some (Attributes names)) = tt
card_posted s r now card (cards.Search scope) (Some (EntryAttributes names)) = tt

found_posted : (s : Site) (r : Request) (now : ℕ) (card : Option Card) → IsPosted (found_reply s r now card).post
found_posted s r now None = tt
found_posted s r now (Some card) = card_posted s r now card card.body r.plus

pub reply_posted : (s : Site) (r : Request) (now : ℕ) → IsPosted (reply s r now).post
unfolding reply_of
reply_posted s r now =
    elim (cases_Bool (is_url_name r.selector)) [
      | inl link ↦ rw link tt
      | inr here ↦ rw here (found_posted (visible s now) r now (card_at (visible s now) r.selector))
    ]

-- ---- behind others

both : (a b c : Bool) → (a && b) ≡ true → (b ≡ true → c ≡ true) → (a && c) ≡ true
both true b c is on = on is
both false b c is on = is

pub posts_on : (before : Changes) (now : ℕ) (post : Option Change) → are_posts before ≡ true → IsPosted post → are_posts (before ++ at_moment now post) ≡ true
posts_on [] now None are is = refl
posts_on [] now (Some change) are is = rw is refl
posts_on (c ∷ before) now post are is = both (is_post c.0) (are_posts before) (are_posts (before ++ at_moment now post)) are (λ rest. posts_on before now post rest is)
