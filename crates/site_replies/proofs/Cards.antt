-- What the card of an item says of its views.
use Rattle.std.proofs.Common.{◌≡◌, ℕ, Bool, false, zero, suc, ◌<◌, List, [], ◌∷◌, ◌++◌, length, refl, ap, sym, subst, ◌∙◌, arith}
use Rattle.std.specs.Prelude.{Option, Some, None, Result, Ok, Err, IfOk, IsTrue, map, slice_get, slice_index_or}
use Rattle.host_types.specs.Names.{is_url_name}
use Rattle.host_types.specs.Site.{Site, item_at}
use Rattle.host_types.specs.AllChanges.{Changes}
use Rattle.host_types.specs.Card.{card_view, card_body, card_of, card_at, bytes_of, viewed, viewed_in, viewed_at}
use Rattle.host_types.specs.Visible.{visible, viewed_at-visible}
use Rattle.host_types.specs.SiteState.{SiteState, HasRead}
use Rattle.text_writer.specs.Text.{sent_as}
use Rattle.host_types.specs.declared.view.Kind.{Kind}
use Rattle.host_types.specs.declared.view.View.{View}
use Rattle.host_types.specs.declared.item.Item.{Item}
use Rattle.host_types.specs.declared.item.Body.{Body}
use Rattle.host_types.specs.declared.item.Body.TheVariants as bodies
use Rattle.host_types.specs.declared.card.Card.{Card}
use Rattle.host_types.specs.declared.card.CardBody.{CardBody}
use Rattle.host_types.specs.declared.card.CardBody.TheVariants as cards
use Rattle.host_types.specs.declared.card.CardView.{CardView}
use Rattle.request_reader.specs.Request.{Request}
use Rattle.site_replies.specs.Lengths.{AreLengths, HasLengths}
use Rattle.site_replies.specs.LaterReply.{later_card_reply, later_found_reply, later_reply_of, later_reply}
use Rattle.site_replies.specs.Replies.{reply_bytes, answer_of, IsSized}
use Rattle.site_replies.specs.declared.answered.Reply.{Reply}
use Rattle.site_replies.specs.declared.answered.Reply.TheVariants as replies
use Rattle.site_replies.specs.declared.answered.Answered.{Answered}
use Rattle.site_replies.proofs.AfterReads.{still_honest}

view_lengths : (views : List View) (place : ℕ) (none : CardView) → place < length (map card_view views) → length (bytes_of (slice_get views place)) ≡ (slice_index_or (map card_view views) place none).length
view_lengths [] place none less = absurd (omega arith)
view_lengths (v ∷ vs) zero none less = refl
view_lengths (v ∷ vs) (suc place) none less = view_lengths vs place none (omega arith)

body_lengths : (body : Body) → HasLengths (card_body body) (viewed body)
body_lengths (bodies.Views kind views) = view_lengths views
body_lengths (bodies.Menu entries) = tt
body_lengths (bodies.Board most next) = tt
body_lengths (bodies.Form board questions) = tt
body_lengths (bodies.Search scope) = tt
body_lengths (bodies.Moved target) = tt

lengths_in : (o : Option Item) (s : Site) (selector : List ℕ) (card : Card) → item_at s selector ≡ o → Some card ≡ card_at s selector → HasLengths card.body (viewed_at s selector)
lengths_in None s selector card at is = let none : Some card ≡ None = rw at at is in absurd (cc none)
lengths_in (Some item) s selector card at is =
    let some : Some card ≡ Some (card_of item) = rw at at is in
    let one : card ≡ card_of item = cc some in
    let same : card.body ≡ card_body item.body = ap (λ (c : Card). c.body) one in
    subst (λ (o : Option Item). HasLengths card.body (viewed_in o)) (sym at) (subst (λ (b : CardBody). HasLengths b (viewed item.body)) (sym same) (body_lengths item.body))

-- what a card says of the views of a document
pub view_lengths_in : (body : CardBody) (kind : Kind) (views : List CardView) (bytes : ℕ → List ℕ) → body ≡ cards.Views kind views → HasLengths body bytes → AreLengths views bytes
view_lengths_in body kind views bytes is lengths = subst (λ (b : CardBody). HasLengths b bytes) is lengths

pub has_lengths : (s : Site) (selector : List ℕ) (card : Card) → Some card ≡ card_at s selector → HasLengths card.body (viewed_at s selector)
has_lengths s selector card is = lengths_in (item_at s selector) s selector card refl is

-- the reply by the card that was read is the reply of the site before the read
pub found : {E : Type 0} (a b : SiteState) (selector : List ℕ) (before : Changes) (r : Request) (now : ℕ) (card : Card) (result : Result Answered E) → HasRead a b → IsTrue a.honest → selector ≡ r.selector → Some card ≡ card_at (visible a.site now) selector
    → (IsTrue b.honest → selector ≡ r.selector → HasLengths card.body (viewed_at (visible b.site now) selector) → IfOk result (λ answered. answer_of (visible b.site now) answered ≡ later_card_reply (visible b.site now) before r now card card.body r.plus))
    → IfOk result (λ answered. answer_of (visible a.site now) answered ≡ later_found_reply (visible a.site now) before r now (card_at (visible a.site now) selector))
found a b selector before r now card (Err e) kept honest same is given = tt
found a b selector before r now card (Ok answered) kept honest same is given =
    let after : visible b.site now ≡ visible a.site now = ap (λ (s : Site). visible s now) (kept.site honest) in
    let lengths : HasLengths card.body (viewed_at (visible b.site now) selector) = rw after (has_lengths (visible a.site now) selector card is) in
    ap (λ (s : Site). answer_of s answered) (sym after)
    ∙ given (still_honest a b kept honest) same lengths
    ∙ ap (λ (s : Site). later_card_reply s before r now card card.body r.plus) after
    ∙ ap (later_found_reply (visible a.site now) before r now) is

-- a view that is named by the card that was read has its size before the read
sized_seen : (a b : SiteState) (selector : List ℕ) (now : ℕ) (card : Card) (answered : Answered) → HasRead a b → IsTrue a.honest → Some card ≡ card_at (visible a.site now) selector
    → (IsTrue b.honest → HasLengths card.body (viewed_at (visible b.site now) selector) → IsSized (visible b.site now) answered.reply)
    → IsSized (visible a.site now) answered.reply
sized_seen a b selector now card answered kept honest is given =
    let after : visible b.site now ≡ visible a.site now = ap (λ (s : Site). visible s now) (kept.site honest) in
    let lengths : HasLengths card.body (viewed_at (visible b.site now) selector) = rw after (has_lengths (visible a.site now) selector card is) in
    subst (λ (s : Site). IsSized s answered.reply) after (given (still_honest a b kept honest) lengths)

-- its bytes are those of the site, in which it stands too
whole_bytes : (s : Site) (now : ℕ) (reply : Reply) → IsSized (visible s now) reply → reply_bytes (visible s now) reply ≡ reply_bytes s reply
whole_bytes s now (replies.Whole bytes) sized = refl
whole_bytes s now (replies.View v) sized = ap (λ (bytes : List ℕ). v.head ++ sent_as v.is_text bytes) (viewed_at-visible s now v.selector v.view (omega (arith, sized.0, sized.1)))

whole_size : (s : Site) (now : ℕ) (reply : Reply) → IsSized (visible s now) reply → IsSized s reply
whole_size s now (replies.Whole bytes) sized = tt
whole_size s now (replies.View v) sized = (sized.0, ap (λ (bytes : List ℕ). length bytes) (sym (viewed_at-visible s now v.selector v.view (omega (arith, sized.0, sized.1)))) ∙ sized.1)

pub sized : {E : Type 0} (a b : SiteState) (selector : List ℕ) (now : ℕ) (card : Card) (result : Result Answered E) → HasRead a b → IsTrue a.honest → Some card ≡ card_at (visible a.site now) selector
    → (IsTrue b.honest → HasLengths card.body (viewed_at (visible b.site now) selector) → IfOk result (λ answered. IsSized (visible b.site now) answered.reply))
    → IfOk result (λ answered. IsSized a.site answered.reply)
sized a b selector now card (Err e) kept honest is given = tt
sized a b selector now card (Ok answered) kept honest is given = whole_size a.site now answered.reply (sized_seen a b selector now card answered kept honest is given)

-- the reply to what is no link
pub found_up : {E : Type 0} (a b : SiteState) (before : Changes) (r : Request) (now : ℕ) (selector : List ℕ) (card : Card) (result : Result Answered E) → is_url_name r.selector ≡ false → selector ≡ r.selector → HasRead a b → IsTrue a.honest → Some card ≡ card_at (visible a.site now) selector
    → (IsTrue b.honest → HasLengths card.body (viewed_at (visible b.site now) selector) → IfOk result (λ answered. IsSized (visible b.site now) answered.reply))
    → IfOk result (λ answered. answer_of (visible a.site now) answered ≡ later_found_reply (visible a.site now) before r now (card_at (visible a.site now) selector)) → IfOk result (λ answered. answer_of a.site answered ≡ later_reply a.site before r now)
unfolding later_reply_of
found_up a b before r now selector card (Err e) here same kept honest is sizes given = tt
found_up a b before r now selector card (Ok answered) here same kept honest is sizes given =
    let size = sized_seen a b selector now card answered kept honest is sizes in
    ap (λ (bytes : List ℕ). record { bytes = bytes; post = answered.post }) (sym (whole_bytes a.site now answered.reply size))
    ∙ rw here (given ∙ ap (λ (at : List ℕ). later_found_reply (visible a.site now) before r now (card_at (visible a.site now) at)) same)
