-- A site stays one when an item moves.
use Rattle.std.proofs.Common.{◌≡◌, ℕ, ◌≤◌, true, false, List, length, Option, Some, None, refl, ap, sym, ◌∙◌, inl, inr}
use Rattle.std.specs.Prelude.{Ok, nat_lt, nat_le, not, is_some, ◌&&◌}
use Rattle.std.proofs.lemmas.Bool.{cases_Bool, both_ways, and_parts, or_parts, not-true, le-leb}
use Rattle.std.proofs.lemmas.Map.Text.{is_eq-slice_cmp}
use Rattle.common_types.specs.Names.{is_reserved, is_url_name, is_post_name}
use Rattle.host_types.specs.Items.{is_selector, is_title, is_bad_body, is_long_item, is_long_body, is_typed_body, has_moments, is_typed_item, is_valid_item}
use Rattle.host_types.specs.Site.{Site, item_at, with_item, post_selector, board_of, board_in, board_at, has_posts, IsSite, MayStand}
use Rattle.host_types.specs.Change.{is_empty, is_moved, moved_item, movable, move_item, move_to}
use Rattle.common_types.specs.declared.refused.Refused.TheVariants as refusals
use Rattle.host_types.specs.declared.item.Item.{Item}
use Rattle.host_types.specs.declared.item.Body.{Body}
use Rattle.host_types.specs.declared.item.Body.TheVariants.{Views, Menu, Board, Form, Search, Moved}
use Rattle.host_types.proofs.LookUps.{Differ, they_differ, put_elsewhere}
use Rattle.host_types.proofs.Boards.{HasNoPosts, no_posts}
use Rattle.host_types.proofs.ValidItems.{FitsThere, with_is_site}
use Rattle.host_types.proofs.ValidRemove.{not_refused, made, not_empty}

-- ---- the item at its new selector

-- what is too long for the one selector is too long for the other, but for a board
long_there : (from to : List ℕ) (body : Body) → (is_some (board_of body) && nat_lt 229 (length to)) ≡ false → is_long_body from body ≡ false → is_long_body to body ≡ false
long_there from to (Views kind views) fits short = short
long_there from to (Menu entries) fits short = short
long_there from to (Board cap next) fits short =
    let sizes = or_parts (nat_lt 100 cap) (nat_lt 229 (length from)) short in
    rw (sizes.0, fits) refl
long_there from to (Form board questions) fits short = short
long_there from to (Search scope) fits short = short
long_there from to (Moved target) fits short = short

fits_there : (from to : List ℕ) (item : Item) (s : Site) → MayStand s from item → is_selector to ≡ true → is_url_name to ≡ false → (is_some (board_of item.body) && nat_lt 229 (length to)) ≡ false → FitsThere to item
fits_there from to item s may name no_url fits =
    let valid = and_parts (is_typed_item item) (not (is_bad_body item.body) && not (is_long_item from item)) may.valid in
    let limits = and_parts (not (is_bad_body item.body)) (not (is_long_item from item)) valid.1 in
    let sizes = or_parts (nat_lt 400 (length item.summary)) (is_long_body from item.body) (not-true (is_long_item from item) limits.1) in
    let there : is_valid_item to item ≡ true = rw (valid.0, limits.0, sizes.0, long_there from to item.body fits sizes.1) refl in
    record { name = name; valid = there; no_url = no_url; counted = may.counted }

-- ---- the note that it leaves

fits_note : (from to : List ℕ) (item : Item) (s : Site) (now : ℕ) → MayStand s from item → is_selector to ≡ true → now ≤ 253402300799 → FitsThere from (moved_item item to now)
fits_note from to item s now may name early =
    let valid = and_parts (is_typed_item item) (not (is_bad_body item.body) && not (is_long_item from item)) may.valid in
    let title = (and_parts (is_title item.title) (has_moments item && is_typed_body item.body) valid.0).0 in
    let note : is_valid_item from (moved_item item to now) ≡ true = rw (title, le-leb now 253402300799 early, name) refl in
    record { name = may.name; valid = note; no_url = may.no_url; counted = λ cap next is. absurd (cc is) }

-- ---- the move

-- no posts of a board stand after an item is put somewhere else, that is not a post
still_none : (s : Site) (k to : List ℕ) (item : Item) → Differ k to → is_post_name to ≡ false → HasNoPosts s k → HasNoPosts (with_item s to item) k
still_none s k to item apart other none cap next n is first given last =
    let was : board_at s k ≡ Some (cap, next) = sym (ap board_in (put_elsewhere s to item k apart)) ∙ is in
    let far : Differ (post_selector k n) to = they_differ (post_selector k n) to (λ same. both_ways (is_post_name to) other (ap is_post_name (sym same))) in
    put_elsewhere s to item (post_selector k n) far ∙ none cap next n was first given last

stood : (s : Site) (from : List ℕ) (o : Option Item) (item : Item) → item_at s from ≡ o → movable o ≡ Some item → item_at s from ≡ Some item
stood s from None item is h = absurd (cc h)
stood s from (Some x) item is h =
    elim (cases_Bool (is_moved x.body)) [
      | inl moved ↦ (let none = rw moved at h in absurd (cc none))
      | inr other ↦ (let same = rw other at h in is ∙ same)
    ]

move_made : (s t : Site) (from to : List ℕ) (now : ℕ) (o : Option Item) → IsSite s → is_selector to ≡ true → now ≤ 253402300799 → is_empty from ≡ false → is_empty to ≡ false
    → is_reserved from ≡ false → is_reserved to ≡ false → Differ from to → movable (item_at s from) ≡ o → move_item s from to now o ≡ Ok t → IsSite t
move_made s t from to now None site name early from_some to_some from_free to_free apart is h = absurd (cc h)
move_made s t from to now (Some item) site name early from_some to_some from_free to_free apart is h =
    let long = not_refused refusals.TooLong _ _ t h in
    let full = not_refused refusals.NotEmpty _ _ t long.1 in
    let none = or_parts (has_posts s from) (has_posts s to) full.0 in
    let from_names = or_parts (is_url_name from) (is_post_name from) from_free in
    let to_names = or_parts (is_url_name to) (is_post_name to) to_free in
    let may = site.each from item (stood s from (item_at s from) item refl is) in
    let there : IsSite (with_item s to item) = with_is_site s to item site (fits_there from to item s may name to_names.0 long.0) to_names.1 (λ top. absurd (not_empty to to_some top)) (inl (no_posts s to none.1)) in
    let rest = still_none s from to item apart to_names.1 (no_posts s from none.0) in
    made _ (with_item (with_item s to item) from (moved_item item to now)) t refl full.1
    (with_is_site (with_item s to item) from (moved_item item to now) there (fits_note from to item s now may name early) from_names.1 (λ top. absurd (not_empty from from_some top)) (inl rest))

pub move_keeps : (s t : Site) (from to : List ℕ) (now : ℕ) → IsSite s → is_selector to ≡ true → now ≤ 253402300799 → move_to s from to now ≡ Ok t → IsSite t
unfolding move_to
move_keeps s t from to now site name early h =
    let root = not_refused refusals.Root _ _ t h in
    let reserved = not_refused refusals.Reserved _ _ t root.1 in
    let bad = not_refused refusals.BadName _ _ t reserved.1 in
    let some = or_parts (is_empty from) (is_empty to) root.0 in
    let free = or_parts (is_reserved from) (is_reserved to) reserved.0 in
    let apart : Differ from to = is_eq-slice_cmp from to ∙ bad.0 in
    move_made s t from to now (movable (item_at s from)) site name early some.0 some.1 free.0 free.1 apart refl bad.1
