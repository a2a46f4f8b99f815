-- Replies to requests once some posts are made.
use Rattle.std.proofs.Common.{◌≡◌, ◌<◌, ◌≤◌, ℕ, Bool, true, List, [], length, refl, ap, sym, ◌∙◌, arith, inl, inr}
use Rattle.std.specs.Prelude.{Option, Some, None, is_some, Result, Ok, Err}
use Rattle.std.specs.Option.{option_map}
use Rattle.std.proofs.lemmas.Bool.{cases_Bool, cases_lt, le-ltb, lt-ltb}
use Rattle.host_types.specs.AllChanges.{Changes}
use Rattle.host_types.specs.Names.{is_url_name}
use Rattle.host_types.specs.Site.{Site}
use Rattle.host_types.specs.Change.{most_post_bytes}
use Rattle.host_types.specs.Card.{card_at}
use Rattle.host_types.specs.Address.{Address, address}
use Rattle.host_types.specs.declared.form.Question.{Question}
use Rattle.host_types.specs.declared.card.Card.{Card}
use Rattle.host_types.specs.declared.card.CardBody.{CardBody}
use Rattle.host_types.specs.declared.card.CardBody.TheVariants as cards
use Rattle.text_writer.specs.declared.error.ErrorText.TheVariants as errors
use Rattle.ask_forms.specs.Reading.{read_by}
use Rattle.ask_forms.specs.Post.{post_title, post_text}
use Rattle.ask_forms.specs.declared.answer.Answer.{Answer}
use Rattle.ask_forms.specs.declared.ask_fault.AskFault.{AskFault}
use Rattle.request_reader.specs.Request.{Request, Plus, Fetch, Attributes, EntryAttributes}
use Rattle.site_replies.specs.Reply.{WholeAnswer, without_post, error_reply_of, post_reply, answers_by, form_by, form_reply, card_reply, found_reply, reply_of}
use Rattle.site_replies.specs.PostReply.{reply_by_body, reply_by_card}
use Rattle.site_replies.specs.LaterReply.{posts_on, counted_body, counted_card, later_post_reply, later_form_reply, later_card_reply, later_found_reply, later_reply_of}
use Rattle.site_replies.proofs.Posted.{by_card, too_long}

-- ---- a post behind others

pub later_too_long : (s : Site) (before : Changes) (now : ℕ) (board title text : List ℕ) → 65536 < length text → later_post_reply s before now board title text ≡ without_post (error_reply_of true errors.AnswersDoNotFit)
unfolding later_post_reply most_post_bytes
later_too_long s before now board title text long = rw (lt-ltb 65536 (length text) long) refl

pub later_by_card : (s : Site) (before : Changes) (now : ℕ) (board title text : List ℕ) → length text ≤ 65536 →
    later_post_reply s before now board title text ≡ reply_by_card (address s) now board title text (option_map (counted_card (posts_on board before)) (card_at s board))
unfolding later_post_reply most_post_bytes
later_by_card s before now board title text fits = rw (le-ltb 65536 (length text) fits) refl

-- ---- a form behind posts

-- a form whose posts are answered alike is
same_answers : (f g : List ℕ → List ℕ → WholeAnswer) → ((title text : List ℕ) → f title text ≡ g title text) → (questions : List Question) (read : Result (List Answer) AskFault) → answers_by f questions read ≡ answers_by g questions read
same_answers f g same questions (Ok answers) = same (post_title questions answers) (post_text questions answers)
same_answers f g same questions (Err fault) = refl

pub same_form : (f g : List ℕ → List ℕ → WholeAnswer) → ((title text : List ℕ) → f title text ≡ g title text) → (is_plus : Bool) (questions : List Question) (lines : Option (List (List ℕ))) → form_by f is_plus questions lines ≡ form_by g is_plus questions lines
same_form f g same is_plus questions None = refl
same_form f g same is_plus questions (Some lines) = same_answers f g same questions (read_by questions lines)

-- ---- behind no posts

uncounted_body : (body : CardBody) → counted_body 0 body ≡ body
uncounted_body (cards.Views kind views) = refl
uncounted_body (cards.Menu es) = refl
uncounted_body (cards.Board cap next) = ap (cards.Board cap) (omega arith)
uncounted_body (cards.Form board questions) = refl
uncounted_body (cards.Search scope) = refl
uncounted_body (cards.Moved target) = refl

uncounted : (a : Address) (now : ℕ) (board title text : List ℕ) (card : Option Card) → reply_by_card a now board title text (option_map (counted_card 0) card) ≡ reply_by_card a now board title text card
uncounted a now board title text None = refl
uncounted a now board title text (Some card) = ap (reply_by_body a now board title text) (uncounted_body card.body)

no_later : (s : Site) (now : ℕ) (board title text : List ℕ) → later_post_reply s [] now board title text ≡ post_reply s now board title text
no_later s now board title text =
    elim (cases_lt 65536 (length text)) [
      | inl long ↦ later_too_long s [] now board title text long ∙ sym (too_long s now board title text long)
      | inr fits ↦
          later_by_card s [] now board title text (omega (arith, fits))
          ∙ uncounted (address s) now board title text (card_at s board)
          ∙ sym (by_card s now board title text (omega (arith, fits)))
    ]

form_none : (s : Site) (r : Request) (now : ℕ) (board : List ℕ) (questions : List Question) (plus : Option Plus) → r.plus ≡ plus → later_form_reply s [] r now board questions ≡ form_reply s (is_some plus) now board questions r.lines
form_none s r now board questions plus is =
    ap (λ (p : Option Plus). form_by (later_post_reply s [] now board) (is_some p) questions r.lines) is
    ∙ same_form (later_post_reply s [] now board) (post_reply s now board) (no_later s now board) (is_some plus) questions r.lines

card_none : (s : Site) (r : Request) (now : ℕ) (card : Card) (body : CardBody) (plus : Option Plus) → r.plus ≡ plus → later_card_reply s [] r now card body plus ≡ card_reply s r now card body plus
card_none s r now card (cards.Form board questions) None is = form_none s r now board questions None is
card_none s r now card (cards.Form board questions) (Some (Fetch requested)) is = form_none s r now board questions (Some (Fetch requested)) is
card_none s r now card (cards.Form board questions) (Some (Attributes names)) is = refl
card_none s r now card (cards.Form board questions) (Some (EntryAttributes names)) is = refl
card_none s r now card (cards.Views kind views) plus is = refl
card_none s r now card (cards.Menu es) plus is = refl
card_none s r now card (cards.Board cap next) plus is = refl
card_none s r now card (cards.Search scope) plus is = refl
card_none s r now card (cards.Moved target) plus is = refl

found_none : (s : Site) (r : Request) (now : ℕ) (card : Option Card) → later_found_reply s [] r now card ≡ found_reply s r now card
found_none s r now None = refl
found_none s r now (Some card) = card_none s r now card card.body r.plus refl

-- Behind no posts it is the plain reply.
pub none_before : (s : Site) (r : Request) (now : ℕ) → later_reply_of s [] r now ≡ reply_of s r now
unfolding later_reply_of reply_of
none_before s r now =
    elim (cases_Bool (is_url_name r.selector)) [
      | inl link ↦ rw link refl
      | inr here ↦ rw here (found_none s r now (card_at s r.selector))
    ]
