-- A site stays one when a post is stored.
use Rattle.std.proofs.Common.{◌≡◌, ℕ, ◌+◌, ◌-◌, ◌<◌, ◌≤◌, ◌^◌, true, false, List, [], ◌++◌, length, length-append, Option, Some, None, refl, ap, sym, subst, ◌∙◌, inl, inr, arith, ◌==◌}
use Rattle.std.specs.Prelude.{IsTrue, Ok, codes, decimal, nat_lt, nat_le, not, ◌&&◌}
use Rattle.std.proofs.lemmas.Bool.{cases_Bool, cases_lt, both_ways, and_parts, or_parts, not-true, le-leb, le-ltb, lt-ltb, ltb-false, eqb-false}
use Rattle.std.proofs.lemmas.Fmt.{length-decimal-le}
use Rattle.common_types.specs.Names.{is_field, is_post_name}
use Rattle.host_types.specs.Items.{is_selector, is_title, is_host, is_admin, is_bad_body, is_long_item, is_long_body, is_typed_body, is_until, has_moments, is_typed_item, is_valid_item, most_view_bytes}
use Rattle.host_types.specs.Site.{Site, byte_cmp, item_at, with_item, without_item, post_selector, board_of, board_in, board_at, text_item, IsPost, IsSite, IsMenuIn, MayStand}
use Rattle.host_types.specs.SiteLaws.{is_sorted-insert_entry, is_sorted-remove_entry}
use Rattle.host_types.specs.Change.{most_post_bytes, board_after, oldest_post, without_any, with_post, post_on, post_at, post}
use Rattle.host_types.specs.Standing.{HasBoardLimits}
use Rattle.common_types.specs.declared.refused.Refused.TheVariants as refusals
use Rattle.host_types.specs.declared.item.Item.{Item}
use Rattle.host_types.specs.declared.item.Body.TheVariants.{Board}
use Rattle.std.specs.FinMap.{is_sorted}
use Rattle.host_types.proofs.LookUps.{Differ, cases_selector, they_differ, differ_not, put_here, put_elsewhere, taken_here, taken_elsewhere, same_some, some_is_none}
use Rattle.common_types.proofs.PostNames.{is_field-post_selector}
use Rattle.host_types.proofs.Boards.{IsBoard, body_is, board_is, board_is_no_post, board_is_not_top, board_limits}
use Rattle.host_types.proofs.ValidItems.{FitsThere, may_stand}
use Rattle.host_types.proofs.ValidRemove.{not_refused, made}

-- ---- the post

post_name_fits : (board : List ℕ) (n : ℕ) → length board ≤ 229 → n < 2 ^ 64 → length (post_selector board n) ≤ 255
post_name_fits board n short fits =
    let digits : length (decimal n) ≤ 20 = length-decimal-le 20 n (omega arith) (omega arith) fits in
    omega (arith, digits, length-append (codes "post/" ++ board ++ codes "/") (decimal n), length-append (codes "post/" ++ board) (codes "/"), length-append (codes "post/") board)

fits_post : (board : List ℕ) (n : ℕ) (title text : List ℕ) (now : ℕ) → is_field board ≡ true → length board ≤ 229 → n < 2 ^ 64 → is_title title ≡ true → length text ≤ 65536 → now ≤ 253402300799
    → FitsThere (post_selector board n) (text_item title now text)
unfolding most_view_bytes
fits_post board n title text now field short fits named small early =
    let length_fits = le-leb (length (post_selector board n)) 255 (post_name_fits board n short fits) in
    let name : is_selector (post_selector board n) ≡ true = rw (length_fits, is_field-post_selector board n fits field) refl in
    let valid : is_valid_item (post_selector board n) (text_item title now text) ≡ true = rw (named, le-leb now 253402300799 early, le-ltb 262144 (0 + length text) (omega arith)) refl in
    record { name = name; valid = valid; no_url = refl; counted = λ cap next is. absurd (cc is) }

-- ---- the board after it

same_cap : (x y : ℕ × ℕ) → Some x ≡ Some y → x.0 ≡ y.0
same_cap x y h = cc h

same_next : (x y : ℕ × ℕ) → Some x ≡ Some y → x.1 ≡ y.1
same_next x y h = cc h

board_here : (s : Site) (k : List ℕ) (cap next : ℕ) → IsBoard s k cap next → board_at s k ≡ Some (cap, next)
board_here s k cap next b = ap board_in b.stands ∙ ap board_of b.body

one_board : (s : Site) (k l : List ℕ) (x y : ℕ × ℕ) → board_at s k ≡ Some x → board_at s l ≡ Some y → l ≡ k → (x.0 ≡ y.0) × (x.1 ≡ y.1)
one_board s k l x y first second same =
    let twice : Some x ≡ Some y = sym first ∙ ap (board_at s) (sym same) ∙ second in
    (same_cap x y twice, same_next x y twice)

fits_board : (s : Site) (board : List ℕ) (cap n now : ℕ) (b : IsBoard s board cap n) → n + 1 < 2 ^ 64 → now ≤ 253402300799 → FitsThere board (board_after b.item cap n now)
fits_board s board cap n now b fits early =
    let valid = and_parts (is_typed_item b.item) (not (is_bad_body b.item.body) && not (is_long_item board b.item)) b.may.valid in
    let limits = and_parts (not (is_bad_body b.item.body)) (not (is_long_item board b.item)) valid.1 in
    let typed = and_parts (is_title b.item.title) (has_moments b.item && is_typed_body b.item.body) valid.0 in
    let moments = (and_parts (has_moments b.item) (is_typed_body b.item.body) typed.1).0 in
    let until = (and_parts (nat_le b.item.stamp 253402300799) (is_until b.item.until) moments).1 in
    let sizes = or_parts (nat_lt 400 (length b.item.summary)) (is_long_body board b.item.body) (not-true (is_long_item board b.item) limits.1) in
    let some : is_bad_body (Board cap (n + 1)) ≡ false = ap is_bad_body (sym b.body) ∙ not-true (is_bad_body b.item.body) limits.0 in
    let short : is_long_body board (Board cap (n + 1)) ≡ false = ap (is_long_body board) (sym b.body) ∙ sizes.1 in
    let after : is_valid_item board (board_after b.item cap n now) ≡ true = rw (typed.0, le-leb now 253402300799 early, until, lt-ltb (n + 1) (2 ^ 64) fits, some, sizes.0, short) refl in
    record { name = b.may.name; valid = after; no_url = b.may.no_url; counted = λ many next is. (let same = same_next (cap, n + 1) (many, next) is in omega (arith, same)) }

-- ---- the post that is pushed out

-- a selector that isn't taken away
abbrev IsKeptBy : Option (List ℕ) → List ℕ → Type 0
IsKeptBy None q = Unit {0}
IsKeptBy (Some k) q = Differ q k

any_sorted : (u : Site) (o : Option (List ℕ)) → IsTrue (is_sorted byte_cmp u.items) → IsTrue (is_sorted byte_cmp (without_any u o).items)
any_sorted u None sorted = sorted
any_sorted u (Some k) sorted = is_sorted-remove_entry u.items k sorted

any_elsewhere : (u : Site) (o : Option (List ℕ)) (q : List ℕ) → IsTrue (is_sorted byte_cmp u.items) → IsKeptBy o q → item_at (without_any u o) q ≡ item_at u q
any_elsewhere u None q sorted kept = refl
any_elsewhere u (Some k) q sorted kept = taken_elsewhere u k q sorted kept

any_kept : (u : Site) (o : Option (List ℕ)) (q : List ℕ) (item : Item) → IsTrue (is_sorted byte_cmp u.items) → item_at (without_any u o) q ≡ Some item → IsKeptBy o q
any_kept u None q item sorted stands = tt
any_kept u (Some k) q item sorted stands = they_differ q k (λ same. some_is_none item (item_at (without_item u k) q) stands (ap (item_at (without_item u k)) same ∙ taken_here u k sorted))

record HasFields (u : Site) : Type 0 where
  host : IsTrue (is_host u.host)
  port_given : 0 < u.port
  port_fits : u.port < 2 ^ 16
  admin : IsTrue (is_admin u.admin)

any_fields : (u : Site) (o : Option (List ℕ)) → HasFields u → HasFields (without_any u o)
any_fields u None h = h
any_fields u (Some k) h = record { host = h.host; port_given = h.port_given; port_fits = h.port_fits; admin = h.admin }

no_post_differs : (board b : List ℕ) (n : ℕ) → is_post_name b ≡ false → Differ b (post_selector board n)
no_post_differs board b n other = they_differ b (post_selector board n) (λ same. both_ways (is_post_name b) other (ap is_post_name same))

no_post_is_kept : (board b : List ℕ) (cap n : ℕ) → is_post_name b ≡ false → IsKeptBy (oldest_post board cap n) b
no_post_is_kept board b cap n other =
    elim (cases_Bool (nat_lt cap n)) [
      | inl full ↦ rw full (no_post_differs board b (n - cap) other)
      | inr room ↦ rw room tt
    ]

full_board : (board : List ℕ) (cap n : ℕ) → cap < n → oldest_post board cap n ≡ Some (post_selector board (n - cap))
full_board board cap n full = rw (lt-ltb cap n full) refl

-- a post that isn't pushed out remains one of the last
still_last : (board q : List ℕ) (cap n number : ℕ) → q ≡ post_selector board number → 0 < number → number < n → n ≤ number + cap → IsKeptBy (oldest_post board cap n) q → n + 1 ≤ number + cap
still_last board q cap n number named first given last kept =
    elim (cases_lt cap n) [
      | inl full ↦
          let apart : Differ q (post_selector board (n - cap)) = subst (λ (o : Option (List ℕ)). IsKeptBy o q) (full_board board cap n full) kept in
          let other : number ≡ n - cap → ⊥ = λ same. differ_not q (post_selector board (n - cap)) apart (named ∙ ap (post_selector board) same) in
          omega (arith, other)
      | inr room ↦ omega arith
    ]

-- ---- the site after it

-- what a post leaves
module _ (s : Site) (board : List ℕ) (cap n : ℕ) (title text : List ℕ) (now : ℕ) (site : IsSite s) (b : IsBoard s board cap n) where
  abbrev middle : Site
  middle = with_item s (post_selector board n) (text_item title now text)

  abbrev posted : Site
  posted = with_post s board b.item cap n title text now

  abbrev after : Site
  after = without_any posted (oldest_post board cap n)

  free : is_post_name board ≡ false
  free = board_is_no_post s board cap n b

  sorted : IsTrue (is_sorted byte_cmp posted.items)
  sorted = is_sorted-insert_entry middle.items board (board_after b.item cap n now) (is_sorted-insert_entry s.items (post_selector board n) (text_item title now text) site.sorted)

  -- the board stands on, and counts one more
  board_stands : item_at after board ≡ Some (board_after b.item cap n now)
  board_stands = any_elsewhere posted (oldest_post board cap n) board sorted (no_post_is_kept board board cap n free) ∙ put_here middle board (board_after b.item cap n now)

  apart_from_post : (q : List ℕ) → q ≡ post_selector board n → Differ q board
  apart_from_post q same = they_differ q board (λ is. both_ways (is_post_name board) free (ap is_post_name (sym is ∙ same)))

  -- what stands at no selector of the three stands as it was
  rest_stands : (q : List ℕ) → Differ q board → Differ q (post_selector board n) → item_at posted q ≡ item_at s q
  rest_stands q apart other = put_elsewhere middle board (board_after b.item cap n now) q apart ∙ put_elsewhere s (post_selector board n) (text_item title now text) q other

  boards_stand : (k : List ℕ) → is_post_name k ≡ false → Differ k board → item_at after k ≡ item_at s k
  boards_stand k other apart = any_elsewhere posted (oldest_post board cap n) k sorted (no_post_is_kept board k cap n other) ∙ rest_stands k apart (no_post_differs board k n other)

  -- the post that is new
  new_post : HasBoardLimits board cap n → IsPost after (post_selector board n) (text_item title now text)
  new_post limits = record {
    board = board;
    number = n;
    cap = cap;
    next = n + 1;
    text = text;
    named = refl;
    stands = ap board_in board_stands;
    first = limits.counted;
    given = omega arith;
    last = omega (arith, limits.least);
    document = refl;
  }

  -- a post that was there
  old_post : (q : List ℕ) (item : Item) → IsKeptBy (oldest_post board cap n) q → IsPost s q item → IsPost after q item
  old_post q item kept p =
      elim (cases_selector p.board board) [
        | inl same ↦
            let one = one_board s board p.board (cap, n) (p.cap, p.next) (board_here s board cap n b) p.stands same in
            let caps : cap ≡ p.cap = one.0 in
            let nexts : n ≡ p.next = one.1 in
            record {
              board = board;
              number = p.number;
              cap = cap;
              next = n + 1;
              text = p.text;
              named = p.named ∙ ap (λ k. post_selector k p.number) same;
              stands = ap board_in board_stands;
              first = p.first;
              given = omega (arith, nexts, p.given);
              last = still_last board q cap n p.number (p.named ∙ ap (λ k. post_selector k p.number) same) p.first (omega (arith, nexts, p.given)) (omega (arith, nexts, caps, p.last)) kept;
              document = p.document;
            }
        | inr apart ↦
            record {
              board = p.board;
              number = p.number;
              cap = p.cap;
              next = p.next;
              text = p.text;
              named = p.named;
              stands = ap board_in (boards_stand p.board (board_is_no_post s p.board p.cap p.next (board_is s p.board p.cap p.next site p.stands)) apart) ∙ p.stands;
              first = p.first;
              given = p.given;
              last = p.last;
              document = p.document;
            }
      ]

  each_after : is_field board ≡ true → is_title title ≡ true → length text ≤ 65536 → n + 1 < 2 ^ 64 → now ≤ 253402300799 → (q : List ℕ) (item : Item) → item_at after q ≡ Some item → MayStand after q item
  each_after field named small fits early q item stands =
      let limits = board_limits s board cap n site b in
      let kept : IsKeptBy (oldest_post board cap n) q = any_kept posted (oldest_post board cap n) q item sorted stands in
      let before : item_at posted q ≡ Some item = sym (any_elsewhere posted (oldest_post board cap n) q sorted kept) ∙ stands in
      elim (cases_selector q board) [
        | inl same ↦
            let is : board_after b.item cap n now ≡ item = same_some (board_after b.item cap n now) item (sym (put_here middle board (board_after b.item cap n now)) ∙ ap (item_at posted) (sym same) ∙ before) in
            subst (λ x. MayStand after x item) (sym same) (subst (λ (i : Item). MayStand after board i) is (may_stand after board (board_after b.item cap n now) (fits_board s board cap n now b fits early) free))
        | inr apart ↦ elim (cases_selector q (post_selector board n)) [
          | inl same ↦
              let there : item_at posted (post_selector board n) ≡ Some (text_item title now text) =
              put_elsewhere middle board (board_after b.item cap n now) (post_selector board n) (apart_from_post (post_selector board n) refl) ∙ put_here s (post_selector board n) (text_item title now text) in
              let is : text_item title now text ≡ item = same_some (text_item title now text) item (sym there ∙ ap (item_at posted) (sym same) ∙ before) in
              let fits_there : FitsThere (post_selector board n) (text_item title now text) = fits_post board n title text now field limits.short limits.fits named small early in
              subst (λ x. MayStand after x item) (sym same) (subst (λ (i : Item). MayStand after (post_selector board n) i) is
              (record { name = fits_there.name; valid = fits_there.valid; no_url = fits_there.no_url; counted = fits_there.counted; post = λ _. new_post limits }))
          | inr other ↦
              let may = site.each q item (sym (rest_stands q apart other) ∙ before) in
              record { name = may.name; valid = may.valid; no_url = may.no_url; counted = may.counted; post = λ is. old_post q item kept (may.post is) }
        ]
      ]

  top_after : IsMenuIn (item_at after [])
  top_after =
      let apart : Differ [] board = they_differ [] board (λ same. board_is_not_top s board cap n site (board_here s board cap n b) (sym same)) in
      subst (λ (o : Option Item). IsMenuIn o) (sym (boards_stand [] refl apart)) site.top

  pub after_is_site : is_field board ≡ true → is_title title ≡ true → length text ≤ 65536 → n + 1 < 2 ^ 64 → now ≤ 253402300799 → IsSite after
  after_is_site field named small fits early =
      let before : HasFields posted = record { host = site.host; port_given = site.port_given; port_fits = site.port_fits; admin = site.admin } in
      let fields = any_fields posted (oldest_post board cap n) before in
      record {
        sorted = any_sorted posted (oldest_post board cap n) sorted;
        host = fields.host;
        port_given = fields.port_given;
        port_fits = fields.port_fits;
        admin = fields.admin;
        top = top_after;
        each = each_after field named small fits early;
      }

-- ---- the change

one_more : (n : ℕ) → n < 2 ^ 64 → (n == 2 ^ 64 - 1) ≡ false → n + 1 < 2 ^ 64
one_more n fits less =
    let other : n ≡ 2 ^ 64 - 1 → ⊥ = eqb-false n (2 ^ 64 - 1) less in
    omega (arith, fits, other)

posted_on : (s t : Site) (board : List ℕ) (item : Item) (o : Option (ℕ × ℕ)) (title text : List ℕ) (now : ℕ) → IsSite s → is_field board ≡ true → is_title title ≡ true → length text ≤ 65536 → now ≤ 253402300799
    → item_at s board ≡ Some item → board_of item.body ≡ o → post_on s board item o title text now ≡ Ok t → IsSite t
posted_on s t board item None title text now site field named small early stands is h = absurd (cc h)
posted_on s t board item (Some x) title text now site field named small early stands is h =
    let spent = not_refused refusals.Spent _ _ t h in
    let b : IsBoard s board x.0 x.1 = record { item = item; stands = stands; body = body_is item.body x.0 x.1 is; may = site.each board item stands } in
    let limits = board_limits s board x.0 x.1 site b in
    let fits = one_more x.1 limits.fits spent.0 in
    made _ (after s board x.0 x.1 title text now site b) t refl spent.1 (after_is_site s board x.0 x.1 title text now site b field named small fits early)

posted_at : (s t : Site) (board : List ℕ) (o : Option Item) (title text : List ℕ) (now : ℕ) → IsSite s → is_field board ≡ true → is_title title ≡ true → length text ≤ 65536 → now ≤ 253402300799
    → item_at s board ≡ o → post_at s board o title text now ≡ Ok t → IsSite t
posted_at s t board None title text now site field named small early stands h = absurd (cc h)
posted_at s t board (Some item) title text now site field named small early stands h =
    posted_on s t board item (board_of item.body) title text now site field named small early stands refl h

pub post_keeps : (s t : Site) (board title text : List ℕ) (now : ℕ) → IsSite s → is_selector board ≡ true → is_title title ≡ true → now ≤ 253402300799 → post s board title text now ≡ Ok t → IsSite t
unfolding post most_post_bytes
post_keeps s t board title text now site name named early h =
    let long = not_refused refusals.TooLong _ _ t h in
    let field = (and_parts (nat_le (length board) 255) (is_field board) name).1 in
    posted_at s t board (item_at s board) title text now site field named (ltb-false 65536 (length text) long.0) early refl long.1
