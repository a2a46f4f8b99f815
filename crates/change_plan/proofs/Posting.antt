-- What a post makes.
use Rattle.std.proofs.Common.{◌≡◌, ◌⊎◌, ℕ, ◌-◌, ◌<◌, ◌≤◌, ◌^◌, Bool, false, List, [], ◌∷◌, ◌++◌, length, Option, Some, None, Ok, refl, sym, ap, subst, ◌∙◌, inl, inr, arith}
use Rattle.std.specs.Prelude.{codes, decimal, is_some, ◌||◌, bytes_eq, option_to_list}
use Rattle.std.proofs.lemmas.List.Sums.{sum_by-cons}
use Rattle.host_types.specs.declared.view.View.{View}
use Rattle.std.proofs.Props.{props}
use mathlib.Core.Logic.{∥∥₁_elim}
use Rattle.std.proofs.lemmas.Bool.{cases_lt, lt-ltb, le-ltb}
use Rattle.std.proofs.lemmas.List.{length-append, append_cancel_left}
use Rattle.std.proofs.lemmas.Fmt.{decimal_injective}
use Rattle.host_types.specs.Items.{most_view_bytes, view_bytes, is_long_item}
use Rattle.host_types.specs.Site.{Site, IsSite, item_at, with_item, post_selector, board_of, text_item, text_view}
use Rattle.host_types.specs.Change.{oldest_post, board_after, without_any}
use Rattle.host_types.specs.Standing.{limits_at, HasBodyLimits, HasBoardLimits}
use Rattle.host_types.specs.declared.item.Item.{Item}
use Rattle.host_types.proofs.LookUps.{put_elsewhere, they_differ, same_some}
use Rattle.host_types.proofs.Boards.{body_is}
use Rattle.change_plan.proofs.Moving.{bytes_differ, either_first}
use Rattle.change_plan.specs.Replacements.{all_replaced, AreReplacements, AreApart, AreAt, AreInPlace, OnlyFirstIsNew, post_replacements, removal_of}
use Rattle.change_plan.specs.Plans.{IsPosted}
use Rattle.change_plan.specs.declared.replacement.Replacement.{Replacement}

-- a post's selector is longer than its board's
longer : (board : List ℕ) (n : ℕ) → length board < length (post_selector board n)
longer board n =
    let a = length-append (codes "post/" ++ board ++ codes "/") (decimal n) in
    let b = length-append (codes "post/" ++ board) (codes "/") in
    let c = length-append (codes "post/") board in
    omega (arith, a, b, c)

no_board : (board : List ℕ) (n : ℕ) → post_selector board n ≡ board → ⊥
no_board board n e = let h = longer board n in let k = ap length e in omega (arith, h, k)

same_number : (board : List ℕ) (m n : ℕ) → m < 2 ^ 64 → n < 2 ^ 64 → post_selector board m ≡ post_selector board n → m ≡ n
same_number board m n p q e = decimal_injective m n p q (append_cancel_left (codes "post/" ++ board ++ codes "/") (decimal m) (decimal n) e)

-- the board of a site keeps at least one post
some_kept : (s : Site) (board : List ℕ) (item : Item) (cap next : ℕ) → ∥ IsSite s ∥₁ → item_at s board ≡ Some item → board_of item.body ≡ Some (cap, next) → 0 < cap
some_kept s board item cap next site stands is =
    let prop : IsProp (0 < cap) = hlevel props in
    ∥∥₁_elim site prop (λ h. (least (limits_at s board item h stands).body))
  where
    least : HasBodyLimits board item.body → 0 < cap
    least h = let b : HasBoardLimits board cap next = subst (HasBodyLimits board) (body_is item.body cap next is) h in b.least

-- the replacements of a post know what stood there
post_knows : (s : Site) (board : List ℕ) (item posted stood : Item) (there gone : Option Item) (cap next : ℕ) → next < 2 ^ 64 → 0 < cap → Some item ≡ item_at s board → there ≡ item_at s (post_selector board next)
    → ((q : List ℕ) → oldest_post board cap next ≡ Some q → gone ≡ item_at s q) → AreReplacements s (post_replacements board item (post_selector board next) there posted stood ++ removal_of (oldest_post board cap next) gone)
post_knows s board item posted stood there gone cap next fits some stands at goes =
    (at, (stands ∙ sym (put_elsewhere s new posted board (they_differ board new (λ e. no_board board next (sym e)))), last (cases_lt cap next)))
  where
    new : List ℕ
    new = post_selector board next

    s1 : Site
    s1 = with_item s new posted

    s2 : Site
    s2 = with_item s1 board stood

    last : (cap < next) ⊎ (next ≤ cap) → AreReplacements s2 (removal_of (oldest_post board cap next) gone)
    last (inl less) =
        let q = post_selector board (next - cap) in
        let is : oldest_post board cap next ≡ Some q = rw (lt-ltb cap next less) refl in
        let not_new = they_differ q new (λ e. let same = same_number board (next - cap) next (omega (arith, fits)) fits e in omega (arith, same, some, less)) in
        let not_board = they_differ q board (λ e. no_board board (next - cap) e) in
        subst (λ (o : Option (List ℕ)). AreReplacements s2 (removal_of o gone)) (sym is) (goes q is ∙ sym (put_elsewhere s new posted q not_new) ∙ sym (put_elsewhere s1 board stood q not_board), tt)
    last (inr more) =
        let is : oldest_post board cap next ≡ None = rw (le-ltb cap next more) refl in
        subst (λ (o : Option (List ℕ)). AreReplacements s2 (removal_of o gone)) (sym is) tt

-- the post that goes is neither the new one nor the board
oldest_apart : (board : List ℕ) (cap next : ℕ) → next < 2 ^ 64 → 0 < cap → (q : List ℕ) → oldest_post board cap next ≡ Some q → (q ≡ post_selector board next → ⊥) × (q ≡ board → ⊥)
oldest_apart board cap next fits some q is = by (cases_lt cap next)
  where
    no_some : (a : List ℕ) → None ≡ Some a → ⊥
    no_some a e = cc e

    by : (cap < next) ⊎ (next ≤ cap) → (q ≡ post_selector board next → ⊥) × (q ≡ board → ⊥)
    by (inl less) =
        let there : oldest_post board cap next ≡ Some (post_selector board (next - cap)) = rw (lt-ltb cap next less) refl in
        let one : q ≡ post_selector board (next - cap) = same_some q (post_selector board (next - cap)) (sym is ∙ there) in
        (λ e. let same = same_number board (next - cap) next (omega (arith, fits)) fits (sym one ∙ e) in omega (arith, same, some, less), λ e. no_board board (next - cap) (sym one ∙ e))
    by (inr more) = let none : oldest_post board cap next ≡ None = rw (le-ltb cap next more) refl in absurd (no_some q (sym none ∙ is))

-- the replacements of a post are at the selectors that it touches, each at its own
post_at : (board : List ℕ) (item posted stood : Item) (new : List ℕ) (there gone : Option Item) (oldest : Option (List ℕ)) → (new ≡ board → ⊥) → ((q : List ℕ) → oldest ≡ Some q → (q ≡ new → ⊥) × (q ≡ board → ⊥))
    → AreApart (post_replacements board item new there posted stood ++ removal_of oldest gone) × AreAt (board ∷ new ∷ option_to_list oldest) (post_replacements board item new there posted stood ++ removal_of oldest gone)
post_at board item posted stood new there removed None apart goes =
    ((ap (λ (b : Bool). b || false) (bytes_differ new board apart), (refl, tt)), λ selector. either_first (bytes_eq selector new) (bytes_eq selector board) false)
post_at board item posted stood new there removed (Some q) apart goes =
    let far = goes q refl in (
      (
        ap (λ (b : Bool). b || (bytes_eq new q || false)) (bytes_differ new board apart) ∙ ap (λ (b : Bool). b || false) (bytes_differ new q (λ e. far.0 (sym e))),
        (ap (λ (b : Bool). b || false) (bytes_differ board q (λ e. far.1 (sym e))), (refl, tt)),
      ),
      λ selector. either_first (bytes_eq selector new) (bytes_eq selector board) (bytes_eq selector q || false),
    )

post_makes : (s : Site) (board : List ℕ) (item posted stood : Item) (selector : List ℕ) (there gone : Option Item) (oldest : Option (List ℕ)) → all_replaced s (post_replacements board item selector there posted stood ++ removal_of oldest gone) ≡ without_any (with_item (with_item s selector posted) board stood) oldest
post_makes s board item posted stood selector there removed None = refl
post_makes s board item posted stood selector there removed (Some q) = refl

-- the board stands when it is replaced, and nothing else is put after the post
post_in_place : (s : Site) (board : List ℕ) (item posted stood : Item) (there gone : Option Item) (next : ℕ) (oldest : Option (List ℕ)) → Some item ≡ item_at s board
    → OnlyFirstIsNew s (post_replacements board item (post_selector board next) there posted stood ++ removal_of oldest gone)
post_in_place s board item posted stood there gone next oldest stands = (ap (λ (o : Option Item). is_some o) second, last oldest)
  where
    s1 : Site
    s1 = with_item s (post_selector board next) posted

    second : item_at s1 board ≡ Some item
    second = put_elsewhere s (post_selector board next) posted board (they_differ board (post_selector board next) (λ e. no_board board next (sym e))) ∙ sym stands

    last : (o : Option (List ℕ)) → AreInPlace (with_item s1 board stood) (removal_of o gone)
    last None = tt
    last (Some q) = (tt, tt)

-- a post's text is short
pub short_posted : (item : Item) (title text : List ℕ) (now : ℕ) → item ≡ text_item title now text → length text ≤ 65536 → is_long_item [] item ≡ false
unfolding most_view_bytes
short_posted item title text now is fits =
    let n : view_bytes (text_view text ∷ []) ≤ 262144 = omega (arith, fits, sum_by-cons (λ (w : View). length w.bytes) (text_view text) []) in
    ap (is_long_item []) is ∙ ap (λ (b : Bool). b || false) (le-ltb 262144 (view_bytes (text_view text ∷ [])) n)

-- What a post on a board makes.
pub posted_on : (s : Site) (board : List ℕ) (item posted stood : Item) (there gone : Option Item) (cap next now : ℕ) (selector : List ℕ) (oldest : Option (List ℕ)) (l : List Replacement) → next < 2 ^ 64 → board_of item.body ≡ Some (cap, next) → Some item ≡ item_at s board
    → selector ≡ post_selector board next → oldest ≡ oldest_post board cap next → stood ≡ board_after item cap next now → there ≡ item_at s selector → ((q : List ℕ) → oldest ≡ Some q → gone ≡ item_at s q)
    → l ≡ (record { selector = selector; before = there; after = Some posted }) ∷ (record { selector = board; before = Some item; after = Some stood }) ∷ [] ++ removal_of oldest gone
    → IsPosted s board item (cap, next) posted now l
posted_on s board item posted stood there gone cap next now selector oldest l fits is stands named old made at goes all =
    let new = post_selector board next in
    let at1 = subst (λ (k : List ℕ). there ≡ item_at s k) named at in
    let goes1 = λ (q : List ℕ) (e : oldest_post board cap next ≡ Some q). goes q (old ∙ e) in
    let list : l ≡ post_replacements board item new there posted stood ++ removal_of (oldest_post board cap next) gone =
    all ∙ ap (λ (k : List ℕ). post_replacements board item k there posted stood ++ removal_of oldest gone) named ∙ ap (λ (o : Option (List ℕ)). post_replacements board item new there posted stood ++ removal_of o gone) old in
    subst (IsPosted s board item (cap, next) posted now) (sym list) record {
      makes = ap (λ (t : Site). Ok t) (sym (post_makes s board item posted stood new there gone (oldest_post board cap next) ∙ ap (λ (i : Item). without_any (with_item (with_item s new posted) board i) (oldest_post board cap next)) made));
      first = post_in_place s board item posted stood there gone next (oldest_post board cap next) stands;
      at = λ site.
          let some = some_kept s board item cap next site (sym stands) is in
          let places = post_at board item posted stood new there gone (oldest_post board cap next) (no_board board next) (oldest_apart board cap next fits some) in
          record { know = post_knows s board item posted stood there gone cap next fits some stands at1 goes1; apart = places.0; at = places.1 };
    }
