-- What posts leave of what stands elsewhere.
use Rattle.std.proofs.Common.{◌≡◌, ℕ, ◌+◌, ◌-◌, ◌^◌, ◌==◌, true, false, List, [], ◌∷◌, refl, sym, ap, subst, ◌∙◌, inl, inr, if◌then◌else◌, arith}
use Rattle.std.specs.Prelude.{Option, Some, None, Result, Ok, Err, IsTrue, bytes_eq, length, nat_lt}
use Rattle.std.proofs.lemmas.Bool.{cases_Bool, both_ways, and_parts, false_from_ne_true}
use Rattle.std.proofs.lemmas.Slice.Eq.{bytes_eq-Decides}
use Rattle.std.specs.FinMap.{is_sorted}
use Rattle.host_types.specs.Names.{is_post_name}
use Rattle.host_types.specs.Site.{Site, byte_cmp, item_at, with_item, post_selector, board_of, text_item}
use Rattle.host_types.specs.SiteLaws.{is_sorted-insert_entry, is_sorted-remove_entry}
use Rattle.host_types.specs.Change.{apply, post, post_at, post_on, most_post_bytes, with_post, without_any, oldest_post, board_after}
use Rattle.host_types.specs.declared.change.Change.{Change}
use Rattle.host_types.specs.declared.change.Change.TheVariants.{Put, Remove, Move, SetHost, SetAdmin, Post}
use Rattle.host_types.specs.declared.item.Item.{Item}
use Rattle.host_types.specs.declared.item.Body.{Body}
use Rattle.host_types.specs.declared.item.Body.TheVariants as bodies
use Rattle.common_types.specs.declared.refused.Refused.{Refused}
use Rattle.common_types.specs.declared.refused.Refused.TheVariants as refusals
use Rattle.host_types.proofs.LookUps.{Differ, cases_selector, they_differ, differ_not, put_here, put_elsewhere, taken_elsewhere, same_some}
use Rattle.host_types.proofs.Boards.{body_is}
use Rattle.host_types.proofs.ValidRemove.{not_refused}
use Rattle.site_replies.specs.LaterReply.{is_post, one_on, are_posts, posts_on}
use Rattle.group_world.specs.Step.{Changes}
use Rattle.group_world.specs.Laws.{all_made, and_more, counted_on, counted_in, PostsCountOn}

-- ---- one post

-- what a post leaves that was made
pub record IsPosted (s t : Site) (board title text : List ℕ) (now : ℕ) : Type 0 where
  pub item : Item
  pub cap : ℕ
  pub next : ℕ
  pub stands : item_at s board ≡ Some item
  pub is : item.body ≡ bodies.Board cap next
  pub more : (next == 2 ^ 64 - 1) ≡ false
  pub made : t ≡ without_any (with_post s board item cap next title text now) (oldest_post board cap next)

abbrev made_of : Site → Result Site Refused
made_of s = Ok s

same_ok : (s t : Site) → made_of s ≡ made_of t → t ≡ s
same_ok s t h = sym (cc h)

on_board : (s t : Site) (board title text : List ℕ) (now : ℕ) (item : Item) (b : Option (ℕ × ℕ)) → item_at s board ≡ Some item → board_of item.body ≡ b → post_on s board item b title text now ≡ Ok t → IsPosted s t board title text now
on_board s t board title text now item None stands is h = absurd (cc h)
on_board s t board title text now item (Some b) stands is h =
    let passed = not_refused refusals.Spent (b.1 == 2 ^ 64 - 1) (Ok (without_any (with_post s board item b.0 b.1 title text now) (oldest_post board b.0 b.1))) t h in
    record {
      item = item;
      cap = b.0;
      next = b.1;
      stands = stands;
      is = body_is item.body b.0 b.1 is;
      more = passed.0;
      made = same_ok _ t passed.1;
    }

at_board : (s t : Site) (board title text : List ℕ) (now : ℕ) (o : Option Item) → item_at s board ≡ o → post_at s board o title text now ≡ Ok t → IsPosted s t board title text now
at_board s t board title text now None stands h = absurd (cc h)
at_board s t board title text now (Some item) stands h = on_board s t board title text now item (board_of item.body) stands refl h

posted : (s t : Site) (board title text : List ℕ) (now : ℕ) → post s board title text now ≡ Ok t → IsPosted s t board title text now
unfolding post most_post_bytes
posted s t board title text now h = at_board s t board title text now (item_at s board) refl (not_refused refusals.TooLong (nat_lt 65536 (length text)) (post_at s board (item_at s board) title text now) t h).1

-- ---- elsewhere

gone_differs : (board q : List ℕ) (n : ℕ) → is_post_name q ≡ false → Differ q (post_selector board n)
gone_differs board q n other = they_differ q (post_selector board n) (λ same. both_ways (is_post_name q) other (ap is_post_name same))

kept_elsewhere : (u : Site) (board q : List ℕ) (cap n : ℕ) → IsTrue (is_sorted byte_cmp u.items) → is_post_name q ≡ false → item_at (without_any u (oldest_post board cap n)) q ≡ item_at u q
kept_elsewhere u board q cap n sorted other =
    elim (cases_Bool (nat_lt cap n)) [
      | inl full ↦ rw full (taken_elsewhere u (post_selector board (n - cap)) q sorted (gone_differs board q (n - cap) other))
      | inr room ↦ rw room refl
    ]

pub sorted_post : (s : Site) (board title text : List ℕ) (item : Item) (cap n now : ℕ) → IsTrue (is_sorted byte_cmp s.items) → IsTrue (is_sorted byte_cmp (with_post s board item cap n title text now).items)
sorted_post s board title text item cap n now sorted =
    let middle = with_item s (post_selector board n) (text_item title now text) in
    is_sorted-insert_entry middle.items board (board_after item cap n now) (is_sorted-insert_entry s.items (post_selector board n) (text_item title now text) sorted)

sorted_any : (u : Site) (board : List ℕ) (cap n : ℕ) → IsTrue (is_sorted byte_cmp u.items) → IsTrue (is_sorted byte_cmp (without_any u (oldest_post board cap n)).items)
sorted_any u board cap n sorted =
    elim (cases_Bool (nat_lt cap n)) [
      | inl full ↦ rw full (is_sorted-remove_entry u.items (post_selector board (n - cap)) sorted)
      | inr room ↦ rw room sorted
    ]

pub not_counted : (body : Body) → counted_on 0 body ≡ body
not_counted (bodies.Views kind views) = refl
not_counted (bodies.Menu es) = refl
not_counted (bodies.Board cap next) = ap (bodies.Board cap) (omega arith)
not_counted (bodies.Form board questions) = refl
not_counted (bodies.Search scope) = refl
not_counted (bodies.Moved target) = refl

counted_twice : (m n : ℕ) (body : Body) → counted_on n (counted_on m body) ≡ counted_on (m + n) body
counted_twice m n (bodies.Views kind views) = refl
counted_twice m n (bodies.Menu es) = refl
counted_twice m n (bodies.Board cap next) = ap (bodies.Board cap) (omega arith)
counted_twice m n (bodies.Form board questions) = refl
counted_twice m n (bodies.Search scope) = refl
counted_twice m n (bodies.Moved target) = refl

-- ---- what is seen at a selector

-- until when it is found, and its body, a board counted on by so many
abbrev pub seen_in : ℕ → Option Item → Option (Option ℕ × Body)
seen_in n None = None
seen_in n (Some item) = Some (item.until, counted_on n item.body)

-- a post leaves what its board and its own item make of it
pub left_there : (s t : Site) (board title text q : List ℕ) (now : ℕ) (p : IsPosted s t board title text now) → IsTrue (is_sorted byte_cmp s.items) → is_post_name q ≡ false → item_at t q ≡ item_at (with_post s board p.item p.cap p.next title text now) q
left_there s t board title text q now p sorted other =
    ap (λ (u : Site). item_at u q) p.made
    ∙ kept_elsewhere (with_post s board p.item p.cap p.next title text now) board q p.cap p.next (sorted_post s board title text p.item p.cap p.next now sorted) other

-- on the board
pub left_on : (s t : Site) (board title text q : List ℕ) (now : ℕ) (p : IsPosted s t board title text now) → IsTrue (is_sorted byte_cmp s.items) → is_post_name q ≡ false → q ≡ board → item_at t q ≡ Some (board_after p.item p.cap p.next now)
left_on s t board title text q now p sorted other same =
    left_there s t board title text q now p sorted other
    ∙ ap (item_at (with_post s board p.item p.cap p.next title text now)) same
    ∙ put_here (with_item s (post_selector board p.next) (text_item title now text)) board (board_after p.item p.cap p.next now)

-- off the board
pub left_off : (s t : Site) (board title text q : List ℕ) (now : ℕ) (p : IsPosted s t board title text now) → IsTrue (is_sorted byte_cmp s.items) → is_post_name q ≡ false → Differ q board → item_at t q ≡ item_at s q
left_off s t board title text q now p sorted other apart =
    let first = post_selector board p.next in
    left_there s t board title text q now p sorted other
    ∙ put_elsewhere (with_item s first (text_item title now text)) board (board_after p.item p.cap p.next now) q apart
    ∙ put_elsewhere s first (text_item title now text) q (gone_differs board q p.next other)

one_post_on : (s t : Site) (board title text q : List ℕ) (now : ℕ) → IsTrue (is_sorted byte_cmp s.items) → is_post_name q ≡ false → post s board title text now ≡ Ok t → seen_in 0 (item_at t q) ≡ seen_in (if bytes_eq q board then 1 else 0) (item_at s q)
one_post_on s t board title text q now sorted other h =
    let p = posted s t board title text now h in
    elim (cases_selector q board) [
      | inl same ↦
          let is : bytes_eq q board ≡ true = (bytes_eq-Decides q board).1 same in
          let new : item_at t q ≡ Some (board_after p.item p.cap p.next now) = left_on s t board title text q now p sorted other same in
          let old : item_at s q ≡ Some p.item = ap (item_at s) same ∙ p.stands in
          rw (new, old, is, p.is) (ap (λ (n : ℕ). Some (p.item.until, bodies.Board p.cap n)) (omega arith))
      | inr apart ↦
          let is : bytes_eq q board ≡ false = false_from_ne_true (bytes_eq q board) (λ yes. differ_not q board apart ((bytes_eq-Decides q board).0 yes)) in
          rw is (ap (seen_in 0) (left_off s t board title text q now p sorted other apart))
    ]

-- ---- several

seen_more : (m n : ℕ) (o u : Option Item) → seen_in 0 u ≡ seen_in m o → seen_in n u ≡ seen_in (m + n) o
seen_more m n None None h = refl
seen_more m n None (Some u) h = absurd (cc h)
seen_more m n (Some o) None h = absurd (cc h)
seen_more m n (Some o) (Some u) h =
    let pair : (u.until, counted_on 0 u.body) ≡ (o.until, counted_on m o.body) = same_some _ _ h in
    let same : counted_on 0 u.body ≡ counted_on m o.body = ap (λ (x : Option ℕ × Body). x.1) pair in
    let body : counted_on n u.body ≡ counted_on (m + n) o.body = ap (counted_on n) (sym (not_counted u.body) ∙ same) ∙ counted_twice m n o.body in
    ap (λ (x : Option ℕ × Body). Some (x.0, counted_on n u.body)) pair ∙ ap (λ (b : Body). Some (o.until, b)) body

sorted_change : (s t : Site) (change : Change) (now : ℕ) → IsTrue (is_sorted byte_cmp s.items) → is_post change ≡ true → apply s change now ≡ Ok t → IsTrue (is_sorted byte_cmp t.items)
sorted_change s t (Post board title text) now sorted is h =
    let p = posted s t board title text now h in
    subst (λ (u : Site). IsTrue (is_sorted byte_cmp u.items)) (sym p.made) (sorted_any (with_post s board p.item p.cap p.next title text now) board p.cap p.next (sorted_post s board title text p.item p.cap p.next now sorted))
sorted_change s t (Put selector item) now sorted is h = absurd (cc is)
sorted_change s t (Remove selector) now sorted is h = absurd (cc is)
sorted_change s t (Move from to) now sorted is h = absurd (cc is)
sorted_change s t (SetHost host port) now sorted is h = absurd (cc is)
sorted_change s t (SetAdmin admin) now sorted is h = absurd (cc is)

one_change_on : (s t : Site) (change : Change) (now : ℕ) (q : List ℕ) → IsTrue (is_sorted byte_cmp s.items) → is_post change ≡ true → is_post_name q ≡ false → apply s change now ≡ Ok t → seen_in 0 (item_at t q) ≡ seen_in (one_on q change) (item_at s q)
one_change_on s t (Post board title text) now q sorted is other h = one_post_on s t board title text q now sorted other h
one_change_on s t (Put selector item) now q sorted is other h = absurd (cc is)
one_change_on s t (Remove selector) now q sorted is other h = absurd (cc is)
one_change_on s t (Move from to) now q sorted is other h = absurd (cc is)
one_change_on s t (SetHost host port) now q sorted is other h = absurd (cc is)
one_change_on s t (SetAdmin admin) now q sorted is other h = absurd (cc is)

same_site : (s t : Site) → Some s ≡ Some t → s ≡ t
same_site s t h = cc h

abbrev pub CountsOn : List ℕ → Site → Site → ℕ → Type 0
CountsOn q s t n = seen_in 0 (item_at t q) ≡ seen_in n (item_at s q)

and_others : (s t : Site) (change : Change) (now : ℕ) (changes : Changes) (q : List ℕ) (more : Site → Option Site) → IsTrue (is_sorted byte_cmp s.items) → is_post change ≡ true → is_post_name q ≡ false
    → ((m : Site) → IsTrue (is_sorted byte_cmp m.items) → more m ≡ Some t → CountsOn q m t (posts_on q changes))
    → (r : Result Site Refused) → apply s change now ≡ r → and_more more r ≡ Some t → CountsOn q s t (one_on q change + posts_on q changes)
and_others s t change now changes q more sorted post other others (Err refused) is h = absurd (cc h)
and_others s t change now changes q more sorted post other others (Ok m) is h =
    others m (sorted_change s m change now sorted post is) h ∙ seen_more (one_on q change) (posts_on q changes) (item_at s q) (item_at m q) (one_change_on s m change now q sorted post other is)

pub posts_seen_on : (s t : Site) (changes : Changes) (q : List ℕ) → IsTrue (is_sorted byte_cmp s.items) → are_posts changes ≡ true → is_post_name q ≡ false → all_made s changes ≡ Some t → CountsOn q s t (posts_on q changes)
posts_seen_on s t [] q sorted are other h = ap (λ (u : Site). seen_in 0 (item_at u q)) (sym (same_site s t h))
posts_seen_on s t (c ∷ changes) q sorted are other h =
    let parts = and_parts (is_post c.0) (are_posts changes) are in
    and_others s t c.0 c.1 changes q (λ m. all_made m changes) sorted parts.0 other (λ m sorted_m more. posts_seen_on m t changes q sorted_m parts.1 other more) (apply s c.0 c.1) refl h

body_seen : Option (Option ℕ × Body) → Option Body
body_seen None = None
body_seen (Some seen) = Some seen.1

counted_seen : (n : ℕ) (o : Option Item) → body_seen (seen_in n o) ≡ counted_in n o
unfolding body_seen
counted_seen n None = refl
counted_seen n (Some item) = refl

pub posts_count_on : PostsCountOn
posts_count_on s t changes q sorted are other h =
    sym (counted_seen 0 (item_at t q)) ∙ ap body_seen (posts_seen_on s t changes q sorted are other h) ∙ counted_seen (posts_on q changes) (item_at s q)

-- ---- what each post keeps, all keep

abbrev pub EachKeeps : (Site → Type 0) → Type 0
EachKeeps P = (s t : Site) (board title text : List ℕ) (now : ℕ) → IsTrue (is_sorted byte_cmp s.items) → IsPosted s t board title text now → P s → P t

one_keeps : (P : Site → Type 0) → EachKeeps P → (s t : Site) (change : Change) (now : ℕ) → IsTrue (is_sorted byte_cmp s.items) → is_post change ≡ true → apply s change now ≡ Ok t → P s → P t
one_keeps P each s t (Post board title text) now sorted is h has = each s t board title text now sorted (posted s t board title text now h) has
one_keeps P each s t (Put selector item) now sorted is h has = absurd (cc is)
one_keeps P each s t (Remove selector) now sorted is h has = absurd (cc is)
one_keeps P each s t (Move from to) now sorted is h has = absurd (cc is)
one_keeps P each s t (SetHost host port) now sorted is h has = absurd (cc is)
one_keeps P each s t (SetAdmin admin) now sorted is h has = absurd (cc is)

and_keep : (P : Site → Type 0) → EachKeeps P → (s t : Site) (change : Change) (now : ℕ) (more : Site → Option Site) → IsTrue (is_sorted byte_cmp s.items) → is_post change ≡ true
    → ((m : Site) → IsTrue (is_sorted byte_cmp m.items) → more m ≡ Some t → P m → P t)
    → (r : Result Site Refused) → apply s change now ≡ r → and_more more r ≡ Some t → P s → P t
and_keep P each s t change now more sorted post others (Err refused) is h has = absurd (cc h)
and_keep P each s t change now more sorted post others (Ok m) is h has = others m (sorted_change s m change now sorted post is) h (one_keeps P each s m change now sorted post is has)

pub all_keep : (P : Site → Type 0) → EachKeeps P → (s t : Site) (changes : Changes) → IsTrue (is_sorted byte_cmp s.items) → are_posts changes ≡ true → all_made s changes ≡ Some t → P s → P t
all_keep P each s t [] sorted are h has = subst P (same_site s t h) has
all_keep P each s t (c ∷ changes) sorted are h has =
    let parts = and_parts (is_post c.0) (are_posts changes) are in
    and_keep P each s t c.0 c.1 (λ m. all_made m changes) sorted parts.0 (λ m sorted_m more has_m. all_keep P each m t changes sorted_m parts.1 more has_m) (apply s c.0 c.1) refl h has
