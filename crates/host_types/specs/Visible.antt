-- What clients find of a site at a moment: all but the items that have expired.
use Rattle.std.specs.Prelude.{◌≡◌, ◌<◌, ℕ, length, Bool, true, false, cond, not, nat_le, List, [], ◌∷◌, filter, if◌then◌else◌, Option, Some, None, IsTrue, refl}
use Rattle.std.proofs.Common.{ap, sym, subst, arith, ◌∙◌}
use Rattle.std.specs.declared.cmp.Ordering.{Ordering}
use Rattle.std.specs.declared.cmp.Ordering.TheVariants.{Equal}
use Rattle.std.specs.FinMap.{is_sorted, slice_cmp-IsAntisymmetric, nat_cmp-IsAntisymmetric}
use Rattle.std.specs.FinMap.Entries.{find, find-where_key}
use Rattle.std.specs.List.{AllByRecursion}
use Rattle.std.specs.Option.{option_map}
use Rattle.host_types.specs.Site.{Site, Items, byte_cmp, item_at}
use Rattle.host_types.specs.SiteLaws.{lookup-find}
use Rattle.host_types.specs.Card.{card_of, card_at, viewed_in, viewed_at}
use Rattle.host_types.specs.declared.card.Card.{Card}
use Rattle.host_types.specs.declared.item.Item.{Item}

-- the moment has come from which on an item isn't found
abbrev pub is_over : Option ℕ → ℕ → Bool
is_over None now = false
is_over (Some until) now = nat_le until now

abbrev pub is_fresh : ℕ → List ℕ × Item → Bool
is_fresh now e = not (is_over e.1.until now)

-- what stands there has expired
abbrev pub has_expired : Option Item → ℕ → Bool
has_expired None now = false
has_expired (Some item) now = is_over item.until now

-- the items that are found
unfoldable pub visible_items : Site → ℕ → Items
visible_items s now = filter (λ e. not (has_expired (item_at s e.0) now)) s.items

-- the site as if the items that have expired weren't there
abbrev pub visible : Site → ℕ → Site
visible s now = record s { items = visible_items s now }

-- what stands there, unless it has expired
abbrev pub unless_expired : Option Item → ℕ → Option Item
unless_expired None now = None
unless_expired (Some item) now = if is_over item.until now then None else Some item

-- the card of what stands there, unless it has expired
abbrev pub card_unless_expired : Option Card → ℕ → Option Card
card_unless_expired None now = None
card_unless_expired (Some card) now = if is_over card.until now then None else Some card

-- ---- laws

hidden : (o : Option Item) (now : ℕ) → cond (not (has_expired o now)) o None ≡ unless_expired o now
hidden None now = refl
hidden (Some item) now = elim (is_over item.until now) as (λ b. cond (not b) (Some item) None ≡ cond b None (Some item)) [ true ↦ refl | false ↦ refl ]

-- what is found at a selector
pub item_at-visible : (s : Site) (now : ℕ) (q : List ℕ) → item_at (visible s now) q ≡ unless_expired (item_at s q) now
unfolding visible_items
item_at-visible s now q =
    let stays : List ℕ → Bool = λ k. not (has_expired (item_at s k) now) in
    let alike : (x : List ℕ) → byte_cmp q x ≡ Equal → stays x ≡ stays q = λ x t. ap stays (sym (slice_cmp-IsAntisymmetric nat_cmp-IsAntisymmetric q x t)) in
    lookup-find (visible_items s now) q
    ∙ find-where_key byte_cmp stays q alike s.items
    ∙ ap (λ (o : Option Item). cond (stays q) o None) (sym (lookup-find s.items q))
    ∙ hidden (item_at s q) now

same_filter : (p r : List ℕ × Item → Bool) (es : Items) → AllByRecursion (λ e. p e ≡ r e) es → filter p es ≡ filter r es
same_filter p r [] all = refl
same_filter p r (e ∷ es) all =
    ap (λ (b : Bool). cond b (e ∷ filter p es) (filter p es)) all.0
    ∙ ap (λ (l : Items). cond (r e) (e ∷ l) l) (same_filter p r es all.1)

all_alike : (s : Site) (now : ℕ) (es : Items) → AllByRecursion (λ e. item_at s e.0 ≡ Some e.1) es → AllByRecursion (λ e. not (has_expired (item_at s e.0) now) ≡ is_fresh now e) es
all_alike s now [] all = tt
all_alike s now (e ∷ es) all = (ap (λ (o : Option Item). not (has_expired o now)) all.0, all_alike s now es all.1)

-- where each item is what stands at its selector, those that are found are those that haven't expired
pub visible_items-fresh : (s : Site) (now : ℕ) → AllByRecursion (λ e. item_at s e.0 ≡ Some e.1) s.items → visible_items s now ≡ filter (is_fresh now) s.items
unfolding visible_items
visible_items-fresh s now all = same_filter (λ e. not (has_expired (item_at s e.0) now)) (is_fresh now) s.items (all_alike s now s.items all)

card_hidden : (o : Option Item) (now : ℕ) → option_map card_of (unless_expired o now) ≡ card_unless_expired (option_map card_of o) now
card_hidden None now = refl
card_hidden (Some item) now =
    elim (is_over item.until now) as (λ b. option_map card_of (cond b None (Some item)) ≡ cond b None (Some (card_of item))) [ true ↦ refl | false ↦ refl ]

-- the card that is found
pub card_at-visible : (s : Site) (now : ℕ) (q : List ℕ) → card_at (visible s now) q ≡ card_unless_expired (card_at s q) now
card_at-visible s now q = ap (option_map card_of) (item_at-visible s now q) ∙ card_hidden (item_at s q) now

view_stays : (o : Option Item) (now place : ℕ) → 0 < length (viewed_in (unless_expired o now) place) → viewed_in (unless_expired o now) place ≡ viewed_in o place
view_stays None now place some = refl
view_stays (Some item) now place some =
    elim (is_over item.until now) as (λ b. 0 < length (viewed_in (cond b None (Some item)) place) → viewed_in (cond b None (Some item)) place ≡ viewed_in (Some item) place) [
      | true ↦ λ h. absurd (omega (arith, h))
      | false ↦ λ h. refl
    ] some

-- a view that is found and has bytes has them in the site
pub viewed_at-visible : (s : Site) (now : ℕ) (q : List ℕ) (place : ℕ) → 0 < length (viewed_at (visible s now) q place) → viewed_at (visible s now) q place ≡ viewed_at s q place
viewed_at-visible s now q place some =
    let at = item_at-visible s now q in
    let here = ap (λ (o : Option Item). viewed_in o place) at in
    here ∙ view_stays (item_at s q) now place (subst (λ (l : List ℕ). 0 < length l) here some)
