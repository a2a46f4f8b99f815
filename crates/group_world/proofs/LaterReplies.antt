-- The reply to a request that finds a form, behind posts that are not made yet.
use Rattle.std.proofs.Common.{◌≡◌, ◌<◌, ◌≤◌, ℕ, ◌+◌, ◌-◌, ◌^◌, ◌==◌, Bool, true, false, cond, List, [], length, refl, sym, ap, subst, ◌∙◌, inl, inr, arith}
use Rattle.std.specs.Prelude.{Option, Some, None, is_some, IsTrue, min}
use Rattle.std.specs.FinMap.{is_sorted}
use Rattle.std.specs.Option.{option_map}
use Rattle.std.proofs.Props.{props}
use Rattle.std.proofs.lemmas.Bool.{cases_Bool, cases_lt, both_ways, eqb-false}
use mathlib.Core.Logic.{∥∥₁_elim}
use Rattle.host_types.specs.Names.{is_url_name, is_post_name}
use Rattle.host_types.specs.Site.{Site, IsSite, IsPost, byte_cmp, item_at, with_item, post_selector, board_of, board_in, board_at, text_item}
use Rattle.host_types.specs.Change.{with_post, without_any, oldest_post, board_after}
use Rattle.host_types.specs.Visible.{is_over, visible, unless_expired, item_at-visible}
use Rattle.host_types.specs.Card.{card_of, card_body, card_at}
use Rattle.host_types.specs.Address.{Address, address}
use Rattle.host_types.specs.declared.item.Item.{Item}
use Rattle.host_types.specs.declared.item.Body.{Body}
use Rattle.host_types.specs.declared.item.Body.TheVariants as bodies
use Rattle.host_types.specs.declared.card.Card.{Card}
use Rattle.host_types.specs.declared.card.CardBody.TheVariants as cards
use Rattle.host_types.specs.declared.form.Question.{Question}
use Rattle.host_types.proofs.LookUps.{cases_selector, put_elsewhere, put_here, taken_elsewhere, taken_here, same_some}
use Rattle.host_types.proofs.Boards.{board_is, board_is_no_post, board_limits}
use Rattle.text_writer.specs.declared.error.ErrorText.TheVariants as errors
use Rattle.request_reader.specs.Request.{Request, Plus, Fetch, Attributes, EntryAttributes}
use Rattle.site_replies.specs.Reply.{WholeAnswer, without_post, error_reply_of, post_reply, form_by, card_reply, found_reply, reply_of, reply}
use Rattle.site_replies.specs.PostReply.{reply_by_body, reply_by_card}
use Rattle.site_replies.specs.LaterReply.{are_posts, posts_on, counted_body, counted_card, later_post_reply, later_card_reply, later_found_reply, later_reply_of}
use Rattle.site_replies.proofs.Posted.{by_card, too_long}
use Rattle.site_replies.proofs.LaterReplies.{later_by_card, later_too_long, same_form}
use Rattle.site_replies.specs.Forms.{is_form, is_form_in}
use Rattle.group_world.specs.Step.{Changes}
use Rattle.group_world.specs.Laws.{all_made, counted_on, LaterRepliesAreRight, OnlyFormsPost}
use Rattle.group_world.proofs.CountedPosts.{seen_in, not_counted, left_on, left_off, sorted_post, posts_seen_on, EachKeeps, all_keep}

-- ---- what is known of a site

site_sorted : (s : Site) → ∥ IsSite s ∥₁ → IsTrue (is_sorted byte_cmp s.items)
site_sorted s site = let prop : IsProp (IsTrue (is_sorted byte_cmp s.items)) = hlevel props in ∥∥₁_elim site prop (λ h. h.sorted)

form_no_post : (s : Site) (q : List ℕ) (item : Item) → IsSite s → item_at s q ≡ Some item → is_form item.body ≡ true → is_post_name q ≡ false
form_no_post s q item site stands form =
    elim (cases_Bool (is_post_name q)) [
      | inl post ↦
          let p : IsPost s q item = (site.each q item stands).post post in
          absurd (both_ways (is_form item.body) (ap is_form p.document) form)
      | inr other ↦ other
    ]

-- a form's selector is not that of a post
form_name : (s : Site) (q : List ℕ) (item : Item) → ∥ IsSite s ∥₁ → item_at s q ≡ Some item → is_form item.body ≡ true → is_post_name q ≡ false
form_name s q item site stands form = let prop : IsProp (is_post_name q ≡ false) = hlevel props in ∥∥₁_elim site prop (λ h. form_no_post s q item h stands form)

no_board_there : (s : Site) (q : List ℕ) (b : Option (ℕ × ℕ)) → IsSite s → is_post_name q ≡ true → board_at s q ≡ b → b ≡ None
no_board_there s q None site post is = refl
no_board_there s q (Some b) site post is = absurd (both_ways (is_post_name q) (board_is_no_post s q b.0 b.1 (board_is s q b.0 b.1 site is)) post)

-- nor does a board stand at one
no_board : (s : Site) (q : List ℕ) → ∥ IsSite s ∥₁ → is_post_name q ≡ true → board_at s q ≡ None
no_board s q site post = let prop : IsProp (board_at s q ≡ None) = hlevel props in ∥∥₁_elim site prop (λ h. no_board_there s q (board_at s q) h post refl)

-- the number of a board fits
abbrev FitsIn : Option Item → Type 0
FitsIn o = (cap next : ℕ) → board_in o ≡ Some (cap, next) → next < 2 ^ 64

number_fits : (s : Site) (q : List ℕ) → ∥ IsSite s ∥₁ → FitsIn (item_at s q)
number_fits s q site cap next is = let prop : IsProp (next < 2 ^ 64) = hlevel props in ∥∥₁_elim site prop (λ h. (board_limits s q cap next h (board_is s q cap next h is)).fits)

-- ---- what posts keep

same_address : (u : Site) (o : Option (List ℕ)) → address (without_any u o) ≡ address u
same_address u None = refl
same_address u (Some k) = refl

one_address : (a : Address) → EachKeeps (λ u. address u ≡ a)
one_address a s t board title text now sorted p is =
    ap (λ (u : Site). address u) p.made ∙ same_address (with_post s board p.item p.cap p.next title text now) (oldest_post board p.cap p.next) ∙ is

-- what is no board stays
one_stays : (q : List ℕ) (item : Item) → is_post_name q ≡ false → board_of item.body ≡ None → EachKeeps (λ u. item_at u q ≡ Some item)
one_stays q item other none s t board title text now sorted p stands =
    elim (cases_selector q board) [
      | inl same ↦
          let own : Some item ≡ Some p.item = sym stands ∙ ap (item_at s) same ∙ p.stands in
          let one : item ≡ p.item = cc own in
          absurd (cc (sym none ∙ ap (λ (i : Item). board_of i.body) one ∙ ap board_of p.is))
      | inr apart ↦ left_off s t board title text q now p sorted other apart ∙ stands
    ]

taken_board : (u : Site) (o : Option (List ℕ)) (q : List ℕ) → IsTrue (is_sorted byte_cmp u.items) → board_at u q ≡ None → board_at (without_any u o) q ≡ None
taken_board u None q sorted none = none
taken_board u (Some k) q sorted none =
    elim (cases_selector q k) [
      | inl same ↦ ap (board_at (without_any u (Some k))) same ∙ ap board_in (taken_here u k sorted)
      | inr apart ↦ ap board_in (taken_elsewhere u k q sorted apart) ∙ none
    ]

put_no_board : (u : Site) (k : List ℕ) (item : Item) (q : List ℕ) → board_of item.body ≡ None → board_at u q ≡ None → board_at (with_item u k item) q ≡ None
put_no_board u k item q new none =
    elim (cases_selector q k) [
      | inl same ↦ ap (board_at (with_item u k item)) same ∙ ap board_in (put_here u k item) ∙ new
      | inr apart ↦ ap board_in (put_elsewhere u k item q apart) ∙ none
    ]

-- where no board stands none comes
one_no_board : (q : List ℕ) → EachKeeps (λ u. board_at u q ≡ None)
one_no_board q s t board title text now sorted p none =
    let middle = with_item s (post_selector board p.next) (text_item title now text) in
    let after = with_post s board p.item p.cap p.next title text now in
    let before : board_at middle q ≡ None = put_no_board s (post_selector board p.next) (text_item title now text) q refl none in
    let still : board_at after q ≡ None = elim (cases_selector q board) [
      | inl same ↦ absurd (cc (sym none ∙ ap (board_at s) same ∙ ap board_in p.stands ∙ ap board_of p.is))
      | inr apart ↦ ap board_in (put_elsewhere middle board (board_after p.item p.cap p.next now) q apart) ∙ before
    ] in
    ap (λ (u : Site). board_at u q) p.made ∙ taken_board after (oldest_post board p.cap p.next) q (sorted_post s board title text p.item p.cap p.next now sorted) still

fits_after : (item : Item) (many n now : ℕ) → n < 2 ^ 64 → (n == 2 ^ 64 - 1) ≡ false → FitsIn (Some (board_after item many n now))
fits_after item many n now fits more cap next is =
    let same : n + 1 ≡ next = ap (λ (b : ℕ × ℕ). b.1) (same_some (many, n + 1) (cap, next) is) in
    let other : n ≡ 2 ^ 64 - 1 → ⊥ = eqb-false n (2 ^ 64 - 1) more in
    omega (arith, same, other, fits)

one_fits : (q : List ℕ) → is_post_name q ≡ false → EachKeeps (λ u. FitsIn (item_at u q))
one_fits q other s t board title text now sorted p fits =
    elim (cases_selector q board) [
      | inl same ↦
          let was : board_in (item_at s q) ≡ Some (p.cap, p.next) = ap (board_at s) same ∙ ap board_in p.stands ∙ ap board_of p.is in
          subst FitsIn (sym (left_on s t board title text q now p sorted other same)) (fits_after p.item p.cap p.next now (fits p.cap p.next was) p.more)
      | inr apart ↦ subst FitsIn (sym (left_off s t board title text q now p sorted other apart)) fits
    ]

-- ---- the reply to a post

-- the number on the card comes to no more than the greatest
card_counts : (n : ℕ) (body : Body) → ((cap next : ℕ) → board_of (counted_on n body) ≡ Some (cap, next) → next < 2 ^ 64) → card_body (counted_on n body) ≡ counted_body n (card_body body)
card_counts n (bodies.Views kind views) fits = refl
card_counts n (bodies.Menu es) fits = refl
card_counts n (bodies.Board cap next) fits =
    let few : next + n < 2 ^ 64 = fits cap (next + n) refl in
    let same : next + n ≡ next + min n (2 ^ 64 - 1 - next) = omega (arith, few) in
    rw same refl
card_counts n (bodies.Form board questions) fits = refl
card_counts n (bodies.Search scope) fits = refl
card_counts n (bodies.Moved target) fits = refl

by_over : (a : Address) (now : ℕ) (board title text : List ℕ) (n : ℕ) (o u : Item) (over : Bool) → card_body u.body ≡ counted_body n (card_body o.body)
    → reply_by_card a now board title text (option_map card_of (cond over None (Some u))) ≡ reply_by_card a now board title text (option_map (counted_card n) (option_map card_of (cond over None (Some o))))
by_over a now board title text n o u true counts = refl
by_over a now board title text n o u false counts = ap (reply_by_body a now board title text) counts

by_seen : (a : Address) (now : ℕ) (board title text : List ℕ) (n : ℕ) (o u : Option Item) → seen_in 0 u ≡ seen_in n o → FitsIn u
    → reply_by_card a now board title text (option_map card_of (unless_expired u now)) ≡ reply_by_card a now board title text (option_map (counted_card n) (option_map card_of (unless_expired o now)))
by_seen a now board title text n None None h fits = refl
by_seen a now board title text n None (Some u) h fits = absurd (cc h)
by_seen a now board title text n (Some o) None h fits = absurd (cc h)
by_seen a now board title text n (Some o) (Some u) h fits =
    let pair : (u.until, counted_on 0 u.body) ≡ (o.until, counted_on n o.body) = same_some _ _ h in
    let until : u.until ≡ o.until = ap (λ (x : Option ℕ × Body). x.0) pair in
    let seen : counted_on 0 u.body ≡ counted_on n o.body = ap (λ (x : Option ℕ × Body). x.1) pair in
    let body : u.body ≡ counted_on n o.body = sym (not_counted u.body) ∙ seen in
    let counts : card_body u.body ≡ counted_body n (card_body o.body) = ap card_body body ∙ card_counts n o.body (λ cap next is. fits cap next (ap board_of body ∙ is)) in
    ap (λ (x : Option ℕ). reply_by_card a now board title text (option_map card_of (cond (is_over x now) None (Some u)))) until
    ∙ by_over a now board title text n o u (is_over o.until now) counts

-- no board is there, before and behind the posts
abbrev not_found : WholeAnswer
not_found = without_post (error_reply_of true errors.BoardNotFound)

body_missing : (a : Address) (now : ℕ) (board title text : List ℕ) (n : ℕ) (body : Body) → board_of body ≡ None → (reply_by_body a now board title text (card_body body) ≡ not_found) × (reply_by_body a now board title text (counted_body n (card_body body)) ≡ not_found)
body_missing a now board title text n (bodies.Views kind views) none = (refl, refl)
body_missing a now board title text n (bodies.Menu es) none = (refl, refl)
body_missing a now board title text n (bodies.Board cap next) none = absurd (cc none)
body_missing a now board title text n (bodies.Form on questions) none = (refl, refl)
body_missing a now board title text n (bodies.Search scope) none = (refl, refl)
body_missing a now board title text n (bodies.Moved target) none = (refl, refl)

over_missing : (a : Address) (now : ℕ) (board title text : List ℕ) (n : ℕ) (item : Item) (over : Bool) → board_of item.body ≡ None
    → (reply_by_card a now board title text (option_map card_of (cond over None (Some item))) ≡ not_found) × (reply_by_card a now board title text (option_map (counted_card n) (option_map card_of (cond over None (Some item)))) ≡ not_found)
over_missing a now board title text n item true none = (refl, refl)
over_missing a now board title text n item false none = body_missing a now board title text n item.body none

missing : (a : Address) (now : ℕ) (board title text : List ℕ) (n : ℕ) (o : Option Item) → board_in o ≡ None
    → (reply_by_card a now board title text (option_map card_of (unless_expired o now)) ≡ not_found) × (reply_by_card a now board title text (option_map (counted_card n) (option_map card_of (unless_expired o now))) ≡ not_found)
missing a now board title text n None none = (refl, refl)
missing a now board title text n (Some item) none = over_missing a now board title text n item (is_over item.until now) none

-- by what stands at a board's selector, before and behind
by_items : (s t : Site) (before : Changes) (now : ℕ) (board title text : List ℕ) → ∥ IsSite s ∥₁ → are_posts before ≡ true → all_made s before ≡ Some t
    → reply_by_card (address s) now board title text (option_map card_of (unless_expired (item_at t board) now)) ≡ reply_by_card (address s) now board title text (option_map (counted_card (posts_on board before)) (option_map card_of (unless_expired (item_at s board) now)))
by_items s t before now board title text site are made =
    let sorted = site_sorted s site in
    elim (cases_Bool (is_post_name board)) [
      | inl post ↦
          let old = no_board s board site post in
          let new = all_keep (λ u. board_at u board ≡ None) (one_no_board board) s t before sorted are made old in
          (missing (address s) now board title text 0 (item_at t board) new).0 ∙ sym (missing (address s) now board title text (posts_on board before) (item_at s board) old).1
      | inr other ↦
          by_seen (address s) now board title text (posts_on board before) (item_at s board) (item_at t board) (posts_seen_on s t before board sorted are other made)
          (all_keep (λ u. FitsIn (item_at u board)) (one_fits board other) s t before sorted are made (number_fits s board site))
    ]

all_address : (s t : Site) (before : Changes) → ∥ IsSite s ∥₁ → are_posts before ≡ true → all_made s before ≡ Some t → address t ≡ address s
all_address s t before site are made = all_keep (λ u. address u ≡ address s) (one_address (address s)) s t before (site_sorted s site) are made refl

later_post : (s t : Site) (before : Changes) (now : ℕ) (board title text : List ℕ) → ∥ IsSite s ∥₁ → are_posts before ≡ true → all_made s before ≡ Some t → post_reply (visible t now) now board title text ≡ later_post_reply (visible s now) before now board title text
later_post s t before now board title text site are made =
    elim (cases_lt 65536 (length text)) [
      | inl long ↦ too_long (visible t now) now board title text long ∙ sym (later_too_long (visible s now) before now board title text long)
      | inr fits ↦
          let short : length text ≤ 65536 = omega (arith, fits) in
          by_card (visible t now) now board title text short
          ∙ ap (λ (o : Option Item). reply_by_card (address t) now board title text (option_map card_of o)) (item_at-visible t now board)
          ∙ ap (λ (a : Address). reply_by_card a now board title text (option_map card_of (unless_expired (item_at t board) now))) (all_address s t before site are made)
          ∙ by_items s t before now board title text site are made
          ∙ ap (λ (o : Option Item). reply_by_card (address s) now board title text (option_map (counted_card (posts_on board before)) (option_map card_of o))) (sym (item_at-visible s now board))
          ∙ sym (later_by_card (visible s now) before now board title text short)
    ]

-- ---- the reply of a form

-- a site of this address
abbrev site_of : Address → Site
site_of a = record { items = []; host = a.host; port = a.port; admin = a.admin }

-- the attributes of a form are those at its address
abbrev attributes_by : (r : Request) (now : ℕ) (card : Card) (board : List ℕ) (questions : List Question) (names : List (List ℕ)) → Address → WholeAnswer
attributes_by r now card board questions names a = card_reply (site_of a) r now card (cards.Form board questions) (Some (Attributes names))

later_form : (s t : Site) (before : Changes) (r : Request) (now : ℕ) (card : Card) (body : Body) (plus : Option Plus) → ∥ IsSite s ∥₁ → are_posts before ≡ true → all_made s before ≡ Some t → is_form body ≡ true → r.plus ≡ plus
    → card_reply (visible t now) r now card (card_body body) plus ≡ later_card_reply (visible s now) before r now card (card_body body) plus
later_form s t before r now card (bodies.Form board questions) None site are made form is =
    same_form (post_reply (visible t now) now board) (later_post_reply (visible s now) before now board) (λ title text. later_post s t before now board title text site are made) false questions r.lines
    ∙ ap (λ (p : Option Plus). form_by (later_post_reply (visible s now) before now board) (is_some p) questions r.lines) (sym is)
later_form s t before r now card (bodies.Form board questions) (Some (Fetch requested)) site are made form is =
    same_form (post_reply (visible t now) now board) (later_post_reply (visible s now) before now board) (λ title text. later_post s t before now board title text site are made) true questions r.lines
    ∙ ap (λ (p : Option Plus). form_by (later_post_reply (visible s now) before now board) (is_some p) questions r.lines) (sym is)
later_form s t before r now card (bodies.Form board questions) (Some (Attributes names)) site are made form is =
    ap (attributes_by r now card board questions names) (all_address s t before site are made)
later_form s t before r now card (bodies.Form board questions) (Some (EntryAttributes names)) site are made form is = refl
later_form s t before r now card (bodies.Views kind views) plus site are made form is = absurd (cc form)
later_form s t before r now card (bodies.Menu es) plus site are made form is = absurd (cc form)
later_form s t before r now card (bodies.Board cap next) plus site are made form is = absurd (cc form)
later_form s t before r now card (bodies.Search scope) plus site are made form is = absurd (cc form)
later_form s t before r now card (bodies.Moved target) plus site are made form is = absurd (cc form)

-- a form that is found stands there
found_form : (o : Option Item) (now : ℕ) → is_form_in (unless_expired o now) ≡ true → (item : Item) × ((o ≡ Some item) × ((unless_expired o now ≡ Some item) × (is_form item.body ≡ true)))
found_form None now form = absurd (cc form)
found_form (Some item) now form =
    elim (is_over item.until now) as (λ b. is_form_in (cond b None (Some item)) ≡ true → (i : Item) × ((Some item ≡ Some i) × ((cond b None (Some item) ≡ Some i) × (is_form i.body ≡ true)))) [
      | true ↦ λ e. absurd (cc e)
      | false ↦ λ e. (item, (refl, (refl, e)))
    ] form

form_no_board : (body : Body) → is_form body ≡ true → board_of body ≡ None
form_no_board (bodies.Form board questions) form = refl
form_no_board (bodies.Views kind views) form = refl
form_no_board (bodies.Menu es) form = refl
form_no_board (bodies.Board cap next) form = absurd (cc form)
form_no_board (bodies.Search scope) form = refl
form_no_board (bodies.Moved target) form = refl

later_found : (s t : Site) (before : Changes) (r : Request) (now : ℕ) → ∥ IsSite s ∥₁ → are_posts before ≡ true → all_made s before ≡ Some t → is_form_in (item_at (visible s now) r.selector) ≡ true
    → found_reply (visible t now) r now (card_at (visible t now) r.selector) ≡ later_found_reply (visible s now) before r now (card_at (visible s now) r.selector)
later_found s t before r now site are made form =
    let q = r.selector in
    let f = found_form (item_at s q) now (sym (ap is_form_in (item_at-visible s now q)) ∙ form) in
    let item = f.0 in
    let stood : item_at s q ≡ Some item = f.1.0 in
    let other = form_name s q item site stood f.1.1.1 in
    let stands : item_at t q ≡ Some item = all_keep (λ u. item_at u q ≡ Some item) (one_stays q item other (form_no_board item.body f.1.1.1)) s t before (site_sorted s site) are made stood in
    let new : item_at (visible t now) q ≡ Some item = item_at-visible t now q ∙ ap (λ (o : Option Item). unless_expired o now) (stands ∙ sym stood) ∙ f.1.1.0 in
    let old : item_at (visible s now) q ≡ Some item = item_at-visible s now q ∙ f.1.1.0 in
    ap (λ (o : Option Item). found_reply (visible t now) r now (option_map card_of o)) new
    ∙ later_form s t before r now (card_of item) item.body r.plus site are made f.1.1.1 refl
    ∙ ap (λ (o : Option Item). later_found_reply (visible s now) before r now (option_map card_of o)) (sym old)

pub later_replies_are_right : LaterRepliesAreRight
unfolding reply_of later_reply_of
later_replies_are_right s t before r now site are made form =
    elim (cases_Bool (is_url_name r.selector)) [
      | inl link ↦ rw link refl
      | inr here ↦ rw here (later_found s t before r now site are made form)
    ]

-- ---- what posts

card_no_post : (s : Site) (r : Request) (now : ℕ) (card : Card) (body : Body) (plus : Option Plus) → is_form body ≡ false → (card_reply s r now card (card_body body) plus).post ≡ None
card_no_post s r now card (bodies.Form board questions) plus other = absurd (cc other)
card_no_post s r now card (bodies.Moved target) plus other = refl
card_no_post s r now card (bodies.Views kind views) None other = refl
card_no_post s r now card (bodies.Views kind views) (Some (Fetch requested)) other = refl
card_no_post s r now card (bodies.Views kind views) (Some (Attributes names)) other = refl
card_no_post s r now card (bodies.Views kind views) (Some (EntryAttributes names)) other = refl
card_no_post s r now card (bodies.Menu es) None other = refl
card_no_post s r now card (bodies.Menu es) (Some (Fetch requested)) other = refl
card_no_post s r now card (bodies.Menu es) (Some (Attributes names)) other = refl
card_no_post s r now card (bodies.Menu es) (Some (EntryAttributes names)) other = refl
card_no_post s r now card (bodies.Board cap next) None other = refl
card_no_post s r now card (bodies.Board cap next) (Some (Fetch requested)) other = refl
card_no_post s r now card (bodies.Board cap next) (Some (Attributes names)) other = refl
card_no_post s r now card (bodies.Board cap next) (Some (EntryAttributes names)) other = refl
card_no_post s r now card (bodies.Search scope) None other = refl
card_no_post s r now card (bodies.Search scope) (Some (Fetch requested)) other = refl
card_no_post s r now card (bodies.Search scope) (Some (Attributes names)) other = refl
card_no_post s r now card (bodies.Search scope) (Some (EntryAttributes names)) other = refl

found_no_post : (s : Site) (r : Request) (now : ℕ) (o : Option Item) → is_form_in o ≡ false → (found_reply s r now (option_map card_of o)).post ≡ None
found_no_post s r now None other = refl
found_no_post s r now (Some item) other = card_no_post s r now (card_of item) item.body r.plus other

pub only_forms_post : OnlyFormsPost
unfolding reply_of
only_forms_post s r now other =
    elim (cases_Bool (is_url_name r.selector)) [
      | inl link ↦ rw link refl
      | inr here ↦ rw here (found_no_post (visible s now) r now (item_at (visible s now) r.selector) other)
    ]
