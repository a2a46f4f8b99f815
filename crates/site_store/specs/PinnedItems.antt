-- The items that the pins of a key-value store keep.
use Rattle.std.specs.Prelude.{◌≡◌, ◌==◌, ℕ, Bool, true, false, List, [], map, Option, Some, None, IfSome, refl, IsTrue}
use Rattle.std.proofs.Common.{ap, sym, ◌∙◌}
use Rattle.std.specs.Map.{lookup}
use Rattle.std.specs.Coded.{Π_prop, Coded-set}
use mathlib.Core.Logic.{∥∥₁_elim, ∥∥₁_prop}
use mathlib.Core.HLevel.{Σ_prop_path}
use Rattle.host_types.specs.Site.{Site, Items, IsSite}
use Rattle.mem_site.specs.contracts.mem_site.MemSite as mem
use Rattle.page_store.specs.Pages.{Pair}
use Rattle.site_records.specs.Layout.{layout}
use Rattle.site_records.proofs.LayoutTells.{items_told}

-- the pairs of each pin that is out, by its number
abbrev pub Pins : Type 0
Pins = List (ℕ × List Pair)

-- These pairs are the layout of a valid site of these items.
abbrev pub IsLaidOut : List Pair → Items → Type 0
IsLaidOut pairs items = ∥ ((s : Site) × IsSite s × (pairs ≡ layout s) × (s.items ≡ items)) ∥₁

-- These pairs are the layout of a valid site.
abbrev pub HasItems : List Pair → Type 0
HasItems pairs = (items : Items) × IsLaidOut pairs items

-- So are those that each pin keeps.
abbrev pub AllHave : Pins → Type 0
AllHave pins = (number : ℕ) → IfSome (lookup (λ n. n == number) pins) HasItems

-- the items of the pairs that are found, or none
abbrev pub items_of : (found : Option (List Pair)) → IfSome found HasItems → Items
items_of None has = []
items_of (Some pairs) has = has.0

-- the items that the pin of a number keeps; nothing is known of them where what is kept isn't honest
abbrev pub items_at : (honest : Bool) (pins : Pins) → (IsTrue honest → AllHave pins) → ℕ → Items
items_at true pins have number = items_of (lookup (λ n. n == number) pins) (have refl number)
items_at false pins have number = []

-- the items of each pin that is out, by its number
abbrev pub pins_of : (honest : Bool) (pins : Pins) → (IsTrue honest → AllHave pins) → List (ℕ × Items)
pins_of honest pins have = map (λ number. (number, items_at honest pins have number)) (map (λ pin. pin.0) pins)

-- ---- some pairs are the layout of no other items

abbrev with_items : Items → Site
with_items items = record { items = items; host = []; port = 0; admin = [] }

items_set : (a b : Items) → IsProp (a ≡ b)
items_set a b x y = ap (λ (e : with_items a ≡ with_items b). ap (λ (s : Site). s.items) e) (Coded-set (mem.the_row).coded (with_items a) (with_items b) (ap with_items x) (ap with_items y))

pub same_items : (pairs : List Pair) (a b : Items) → IsLaidOut pairs a → IsLaidOut pairs b → a ≡ b
same_items pairs a b x y = ∥∥₁_elim x (items_set a b) (λ s. ∥∥₁_elim y (items_set a b) (λ t. sym s.3 ∙ items_told s.0 t.0 s.1 t.1 (sym s.2 ∙ t.2) ∙ t.3))

items_prop : (pairs : List Pair) → IsProp (HasItems pairs)
items_prop pairs x y = Σ_prop_path (λ (items : Items). ∥∥₁_prop) (same_items pairs x.0 y.0 x.1 y.1)

found_prop : (found : Option (List Pair)) → IsProp (IfSome found HasItems)
found_prop None x y = refl
found_prop (Some pairs) x y = items_prop pairs x y

pub AllHave-prop : (pins : Pins) → IsProp (AllHave pins)
AllHave-prop pins = Π_prop (λ number. found_prop (lookup (λ n. n == number) pins))
