-- A site stays one when an item is put.
use Rattle.std.proofs.Common.{◌≡◌, ℕ, ◌<◌, ◌≤◌, ◌^◌, true, false, List, [], length, Option, Some, None, refl, ap, sym, subst, inl, inr, ◌⊎◌, arith}
use Rattle.std.specs.Prelude.{Ok, nat_lt, nat_le, not, is_some, ◌&&◌, ◌||◌}
use Rattle.std.proofs.lemmas.Bool.{both_ways, and_parts, and_cases, or_parts, not-false, lt-ltb, le-leb, eqb-true}
use Rattle.common_types.specs.Names.{is_reserved, is_url_name, is_post_name}
use Rattle.host_types.specs.Items.{is_selector, is_title, is_bad_body, is_long_item, is_long_body, is_typed_body, is_until, has_moments, is_typed_item, is_valid_item}
use Rattle.host_types.specs.Site.{Site, with_item, board_of, board_at, has_posts, IsSite, IsMenuBody}
use Rattle.host_types.specs.Change.{is_empty, is_menu, is_moved, keeps_cap, next_after_put, body_put, item_put, put}
use Rattle.common_types.specs.declared.refused.Refused.TheVariants as refusals
use Rattle.host_types.specs.declared.item.Item.{Item}
use Rattle.host_types.specs.declared.item.Body.{Body}
use Rattle.host_types.specs.declared.item.Body.TheVariants.{Views, Menu, Board, Form, Search, Moved}
use Rattle.host_types.proofs.Boards.{HasNoPosts, no_posts, board_is, board_limits}
use Rattle.host_types.proofs.ValidItems.{FitsThere, with_is_site}
use Rattle.host_types.proofs.ValidRemove.{not_refused, made}

-- ---- the body that is put

typed_put : (old : Option (ℕ × ℕ)) (body : Body) → next_after_put old < 2 ^ 64 → is_typed_body body ≡ true → is_typed_body (body_put old body) ≡ true
typed_put old (Views kind views) fits h = h
typed_put old (Menu entries) fits h = h
typed_put old (Board cap next) fits h = lt-ltb (next_after_put old) (2 ^ 64) fits
typed_put old (Form board questions) fits h = h
typed_put old (Search scope) fits h = h
typed_put old (Moved target) fits h = h

bad_put : (old : Option (ℕ × ℕ)) (body : Body) → is_bad_body (body_put old body) ≡ is_bad_body body
bad_put old (Views kind views) = refl
bad_put old (Menu entries) = refl
bad_put old (Board cap next) = refl
bad_put old (Form board questions) = refl
bad_put old (Search scope) = refl
bad_put old (Moved target) = refl

long_put : (k : List ℕ) (old : Option (ℕ × ℕ)) (body : Body) → is_long_body k (body_put old body) ≡ is_long_body k body
long_put k old (Views kind views) = refl
long_put k old (Menu entries) = refl
long_put k old (Board cap next) = refl
long_put k old (Form board questions) = refl
long_put k old (Search scope) = refl
long_put k old (Moved target) = refl

counted_put : (old : Option (ℕ × ℕ)) (body : Body) (cap next : ℕ) → 0 < next_after_put old → board_of (body_put old body) ≡ Some (cap, next) → 0 < next
counted_put old (Views kind views) cap next given h = absurd (cc h)
counted_put old (Menu entries) cap next given h = absurd (cc h)
counted_put old (Board many n) cap next given h =
    let same : next_after_put old ≡ next = ap (λ (b : ℕ × ℕ). b.1) (same_pair (many, next_after_put old) (cap, next) h) in
    subst (λ m. 0 < m) same given
  where
    same_pair : (x y : ℕ × ℕ) → Some x ≡ Some y → x ≡ y
    same_pair x y h = cc h
counted_put old (Form board questions) cap next given h = absurd (cc h)
counted_put old (Search scope) cap next given h = absurd (cc h)
counted_put old (Moved target) cap next given h = absurd (cc h)

-- a board that keeps its cap keeps its count too
kept_board : (old : Option (ℕ × ℕ)) (body : Body) → keeps_cap old (board_of body) ≡ true → board_of (body_put old body) ≡ old
kept_board None body h = absurd (cc h)
kept_board (Some old) (Views kind views) h = absurd (cc h)
kept_board (Some old) (Menu entries) h = absurd (cc h)
kept_board (Some old) (Board cap next) h = ap (λ many. Some (many, old.1)) (sym (eqb-true old.0 cap h))
kept_board (Some old) (Form board questions) h = absurd (cc h)
kept_board (Some old) (Search scope) h = absurd (cc h)
kept_board (Some old) (Moved target) h = absurd (cc h)

menu_put : (old : Option (ℕ × ℕ)) (body : Body) → is_menu body ≡ true → IsMenuBody (body_put old body)
menu_put old (Views kind views) h = absurd (cc h)
menu_put old (Menu entries) h = tt
menu_put old (Board cap next) h = absurd (cc h)
menu_put old (Form board questions) h = absurd (cc h)
menu_put old (Search scope) h = absurd (cc h)
menu_put old (Moved target) h = absurd (cc h)

-- ---- the number of the next post

next_of : (s : Site) (k : List ℕ) (old : Option (ℕ × ℕ)) → IsSite s → board_at s k ≡ old → (0 < next_after_put old) × (next_after_put old < 2 ^ 64)
next_of s k None site is = (omega arith, omega arith)
next_of s k (Some old) site is =
    let limits = board_limits s k old.0 old.1 site (board_is s k old.0 old.1 site is) in
    (limits.counted, limits.fits)

-- ---- the item that is put

fits_put : (k : List ℕ) (old : Option (ℕ × ℕ)) (item : Item) (now : ℕ) → is_selector k ≡ true → is_url_name k ≡ false → is_typed_item item ≡ true → is_bad_body item.body ≡ false → is_long_item k item ≡ false
    → now ≤ 253402300799 → 0 < next_after_put old → next_after_put old < 2 ^ 64 → FitsThere k (item_put old item now)
fits_put k old item now name no_url typed good short early given fits =
    let given_title = and_parts (is_title item.title) (has_moments item && is_typed_body item.body) typed in
    let given_body = and_parts (has_moments item) (is_typed_body item.body) given_title.1 in
    let until = (and_parts (nat_le item.stamp 253402300799) (is_until item.until) given_body.0).1 in
    let body : is_typed_body (body_put old item.body) ≡ true = typed_put old item.body fits given_body.1 in
    let sizes = or_parts (nat_lt 400 (length item.summary)) (is_long_body k item.body) short in
    let valid : is_valid_item k (item_put old item now) ≡ true = rw (given_title.0, le-leb now 253402300799 early, until, body, bad_put old item.body, good, sizes.0, long_put k old item.body, sizes.1) refl in
    record { name = name; valid = valid; no_url = no_url; counted = λ cap next is. counted_put old item.body cap next given is }

pub put_keeps : (s t : Site) (k : List ℕ) (item : Item) (now : ℕ) → IsSite s → is_selector k ≡ true → is_typed_item item ≡ true → now ≤ 253402300799 → put s k item now ≡ Ok t → IsSite t
unfolding put
put_keeps s t k item now site name typed early h =
    let root = not_refused refusals.Root _ _ t h in
    let reserved = not_refused refusals.Reserved _ _ t root.1 in
    let bad = not_refused refusals.BadName _ _ t reserved.1 in
    let long = not_refused refusals.TooLong _ _ t bad.1 in
    let full = not_refused refusals.NotEmpty _ _ t long.1 in
    let names = or_parts (is_url_name k) (is_post_name k) (or_parts (is_reserved k) (is_moved item.body) reserved.0).0 in
    let old = board_at s k in
    let next = next_of s k old site refl in
    let fits = fits_put k old item now name names.0 typed bad.0 long.0 early next.0 next.1 in
    let menu : k ≡ [] → IsMenuBody (body_put old item.body) = λ top. elim (and_cases (is_empty k) (not (is_menu item.body) || is_some item.until) root.0) [
      | inl some ↦ absurd (both_ways (is_empty k) some (ap is_empty top))
      | inr is ↦ menu_put old item.body (not-false (is_menu item.body) (or_parts (not (is_menu item.body)) (is_some item.until) is).0)
    ] in
    let own : HasNoPosts s k ⊎ (board_of (body_put old item.body) ≡ board_at s k) = elim (and_cases (has_posts s k) (not (keeps_cap old (board_of item.body))) full.0) [
      | inl none ↦ inl (no_posts s k none)
      | inr keeps ↦ inr (kept_board old item.body (not-false (keeps_cap old (board_of item.body)) keeps))
    ] in
    made _ (with_item s k (item_put old item now)) t refl full.1 (with_is_site s k (item_put old item now) site fits names.1 menu own)
