-- A post is stored or refused by what the card of its board says.
use Rattle.std.proofs.Common.{◌≡◌, ℕ, ◌-◌, ◌<◌, ◌≤◌, ◌^◌, ◌==◌, true, List, length, arith, ap, ◌∙◌, inl, inr, refl}
use Rattle.std.specs.Prelude.{Option, Some, None, IsTrue}
use Rattle.std.proofs.lemmas.Bool.{cases_Bool, le-ltb, lt-ltb}
use Rattle.std.proofs.lemmas.Bool.Decides.{nat_tests}
use Rattle.host_types.specs.Items.{most_view_bytes}
use Rattle.host_types.specs.Site.{Site, item_at, text_item}
use Rattle.host_types.specs.Change.{post, most_post_bytes}
use Rattle.std.specs.Option.{option_map}
use Rattle.host_types.specs.Card.{card_of, card_body, card_at, has_short_views}
use Rattle.host_types.specs.Address.{address}
use Rattle.host_types.specs.declared.item.Item.{Item}
use Rattle.host_types.specs.declared.item.Body.{Body}
use Rattle.host_types.specs.declared.item.Body.TheVariants as bodies
use Rattle.text_writer.specs.declared.error.ErrorText.TheVariants as errors
use Rattle.site_replies.specs.Reply.{post_reply, without_post, error_reply_of, number_of, number_in}
use Rattle.site_replies.specs.PostReply.{reply_by_card, stored_as}

pub is_short : (title text : List ℕ) (now : ℕ) → length text ≤ 65536 → IsTrue (has_short_views (text_item title now text).body)
unfolding most_view_bytes
is_short title text now fits = grind (arith, nat_tests)

pub too_long : (s : Site) (now : ℕ) (board title text : List ℕ) → 65536 < length text → post_reply s now board title text ≡ without_post (error_reply_of true errors.AnswersDoNotFit)
unfolding post most_post_bytes
too_long s now board title text long = rw (lt-ltb 65536 (length text) long) refl

by_body : (s : Site) (now : ℕ) (board title text : List ℕ) (item : Item) (body : Body) → item_at s board ≡ Some item → item.body ≡ body → length text ≤ 65536 →
    post_reply s now board title text ≡ reply_by_card (address s) now board title text (card_at s board)
unfolding post most_post_bytes
by_body s now board title text item (bodies.Board most next) at is fits =
    let number : number_of (card_at s board) ≡ next = ap number_of (ap (option_map card_of) at) ∙ ap (λ (b : Body). number_in (card_body b)) is in
    elim (cases_Bool (next == 2 ^ 64 - 1)) [
      | inl spent ↦ rw (le-ltb 65536 (length text) fits, at, is, spent) refl
      | inr more ↦ rw (le-ltb 65536 (length text) fits, at, is, more) (ap (λ (n : ℕ). stored_as (address s) now board n title text) number)
    ]
by_body s now board title text item (bodies.Views kind views) at is fits = rw (le-ltb 65536 (length text) fits, at, is) refl
by_body s now board title text item (bodies.Menu es) at is fits = rw (le-ltb 65536 (length text) fits, at, is) refl
by_body s now board title text item (bodies.Form on questions) at is fits = rw (le-ltb 65536 (length text) fits, at, is) refl
by_body s now board title text item (bodies.Search scope) at is fits = rw (le-ltb 65536 (length text) fits, at, is) refl
by_body s now board title text item (bodies.Moved target) at is fits = rw (le-ltb 65536 (length text) fits, at, is) refl

by_item : (s : Site) (now : ℕ) (board title text : List ℕ) (o : Option Item) → item_at s board ≡ o → length text ≤ 65536 →
    post_reply s now board title text ≡ reply_by_card (address s) now board title text (card_at s board)
unfolding post most_post_bytes
by_item s now board title text None at fits = rw (le-ltb 65536 (length text) fits, at) refl
by_item s now board title text (Some item) at fits = by_body s now board title text item item.body at refl fits

pub by_card : (s : Site) (now : ℕ) (board title text : List ℕ) → length text ≤ 65536 →
    post_reply s now board title text ≡ reply_by_card (address s) now board title text (card_at s board)
by_card s now board title text fits = by_item s now board title text (item_at s board) refl fits
