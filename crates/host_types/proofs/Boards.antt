-- Boards of a site, and when their posts stay valid.
use Rattle.std.proofs.Common.{◌≡◌, ℕ, zero, suc, ◌+◌, ◌-◌, ◌<◌, ◌≤◌, Bool, true, false, List, [], ◌∷◌, Option, Some, None, refl, ap, sym, subst, ◌∙◌, arith, inl, inr, ◌⊎◌}
use Rattle.std.specs.Prelude.{is_some, filter}
use Rattle.std.proofs.lemmas.Bool.{cases_Bool, cases_eq, both_ways, lt-ltb}
use Rattle.common_types.specs.Names.{is_post_name}
use Rattle.host_types.specs.Site.{Site, item_at, post_selector, last_numbers, has_any, board_of, board_in, board_at, posts_of, has_posts, has_posts_in, text_view, IsPost, IsSite, IsMenuBody, IsMenuIn, MayStand}
use Rattle.host_types.specs.Standing.{HasBoardLimits, HasBodyLimits, limits_at}
use Rattle.host_types.specs.declared.item.Item.{Item}
use Rattle.host_types.specs.declared.item.Body.{Body}
use Rattle.host_types.specs.declared.item.Body.TheVariants.{Views, Menu, Board, Form, Search, Moved}
use Rattle.host_types.specs.declared.view.Kind.TheVariants.{Text}
use Rattle.host_types.proofs.LookUps.{Differ, cases_selector, same_some, some_is_none}

-- ---- what is known of a board that stands

pub record IsBoard (s : Site) (k : List ℕ) (cap next : ℕ) : Type 0 where
  pub item : Item
  pub stands : item_at s k ≡ Some item
  pub body : item.body ≡ Board cap next
  pub may : MayStand s k item

pub body_is : (body : Body) (cap next : ℕ) → board_of body ≡ Some (cap, next) → body ≡ Board cap next
body_is (Views kind views) cap next h = absurd (cc h)
body_is (Menu entries) cap next h = absurd (cc h)
body_is (Board many n) cap next h =
    let pair : (many, n) ≡ (cap, next) = same_some (many, n) (cap, next) h in
    ap (λ (b : ℕ × ℕ). Board b.0 b.1) pair
body_is (Form board questions) cap next h = absurd (cc h)
body_is (Search scope) cap next h = absurd (cc h)
body_is (Moved target) cap next h = absurd (cc h)

board_found : (s : Site) (k : List ℕ) (cap next : ℕ) (o : Option Item) → IsSite s → item_at s k ≡ o → board_in o ≡ Some (cap, next) → IsBoard s k cap next
board_found s k cap next None site stands is = absurd (cc is)
board_found s k cap next (Some item) site stands is = record { item = item; stands = stands; body = body_is item.body cap next is; may = site.each k item stands }

pub board_is : (s : Site) (k : List ℕ) (cap next : ℕ) → IsSite s → board_at s k ≡ Some (cap, next) → IsBoard s k cap next
board_is s k cap next site is = board_found s k cap next (item_at s k) site refl is

-- a board's selector isn't that of a post
pub board_is_no_post : (s : Site) (k : List ℕ) (cap next : ℕ) → IsBoard s k cap next → is_post_name k ≡ false
board_is_no_post s k cap next b =
    elim (cases_Bool (is_post_name k)) [
      | inl post ↦
          let p : IsPost s k b.item = b.may.post post in
          let twice : Board cap next ≡ Views Text (text_view p.text ∷ []) = sym b.body ∙ p.document in
          absurd (cc twice)
      | inr other ↦ other
    ]

no_board_menu : (o : Option Item) (cap next : ℕ) → IsMenuIn o → board_in o ≡ Some (cap, next) → ⊥
no_board_menu None cap next menu h = absurd menu
no_board_menu (Some item) cap next menu h = no_board_body item.body cap next menu h
  where
    no_board_body : (body : Body) (cap next : ℕ) → IsMenuBody body → board_of body ≡ Some (cap, next) → ⊥
    no_board_body (Views kind views) cap next menu h = absurd menu
    no_board_body (Menu entries) cap next menu h = absurd (cc h)
    no_board_body (Board many n) cap next menu h = absurd menu
    no_board_body (Form board questions) cap next menu h = absurd menu
    no_board_body (Search scope) cap next menu h = absurd menu
    no_board_body (Moved target) cap next menu h = absurd menu

-- nor that of the top menu
pub board_is_not_top : (s : Site) (k : List ℕ) (cap next : ℕ) → IsSite s → board_at s k ≡ Some (cap, next) → k ≡ [] → ⊥
board_is_not_top s k cap next site is top = no_board_menu (item_at s []) cap next site.top (ap (board_at s) (sym top) ∙ is)

pub board_limits : (s : Site) (k : List ℕ) (cap next : ℕ) → IsSite s → IsBoard s k cap next → HasBoardLimits k cap next
board_limits s k cap next site b = subst (HasBodyLimits k) b.body (limits_at s k b.item site b.stands).body

-- ---- a board without posts

-- no post of the board stands
abbrev pub HasNoPosts : Site → List ℕ → Type 0
HasNoPosts s k = (cap next n : ℕ) → board_at s k ≡ Some (cap, next) → 0 < n → n < next → next ≤ n + cap → item_at s (post_selector k n) ≡ None

-- each number that a post may have is among the last
among_last : (p : ℕ → Bool) (cap next n : ℕ) → has_any (filter p (last_numbers cap next)) ≡ false → 0 < n → n < next → next ≤ n + cap → p n ≡ false
among_last p zero next n none first given last = absurd (omega arith)
among_last p (suc cap) next n none first given last =
    let more : 1 < next = omega arith in
    elim (cases_Bool (p (next - 1))) [
      | inl found ↦
          let some : has_any (filter p (last_numbers (suc cap) next)) ≡ true = rw (lt-ltb 1 next more, found) refl in
          absurd (both_ways _ none some)
      | inr gone ↦
          let rest : has_any (filter p (last_numbers cap (next - 1))) ≡ false = sym (rw (lt-ltb 1 next more, gone) refl) ∙ none in
          elim (cases_eq n (next - 1)) [
            | inl same ↦ ap p same ∙ gone
            | inr other ↦ among_last p cap (next - 1) n rest first (omega (arith, other)) (omega arith)
          ]
    ]

none_there : (o : Option Item) → is_some o ≡ false → o ≡ None
none_there None h = refl
none_there (Some item) h = absurd (cc h)

pub no_posts : (s : Site) (k : List ℕ) → has_posts s k ≡ false → HasNoPosts s k
no_posts s k none cap next n is first given last =
    let list : has_any (posts_of s k (cap, next)) ≡ false = sym (ap (has_posts_in s k) is) ∙ none in
    none_there (item_at s (post_selector k n)) (among_last (λ i. is_some (item_at s (post_selector k i))) cap next n list first given last)

-- ---- posts that stay

-- All boards but one are as they were, and that one has no posts, or is as it was: then each post remains one of the last of its board.
pub stays_post : (s t : Site) (k q : List ℕ) (item : Item) → ((b : List ℕ) → Differ b k → board_at t b ≡ board_at s b) → (HasNoPosts s k ⊎ (board_at t k ≡ board_at s k)) → item_at s q ≡ Some item → IsPost s q item → IsPost t q item
stays_post s t k q item others own stood p = record {
  board = p.board;
  number = p.number;
  cap = p.cap;
  next = p.next;
  text = p.text;
  named = p.named;
  stands = elim (cases_selector p.board k) [
    | inl same ↦
        let was : board_at s k ≡ Some (p.cap, p.next) = ap (board_at s) (sym same) ∙ p.stands in
        elim own [
          | inl none ↦
              let name : q ≡ post_selector k p.number = p.named ∙ ap (λ b. post_selector b p.number) same in
              absurd (some_is_none item (item_at s q) stood (ap (item_at s) name ∙ none p.cap p.next p.number was p.first p.given p.last))
          | inr kept ↦ ap (board_at t) same ∙ kept ∙ was
        ]
    | inr other ↦ others p.board other ∙ p.stands
  ];
  first = p.first;
  given = p.given;
  last = p.last;
  document = p.document;
}
