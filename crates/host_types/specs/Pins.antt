-- Pins of a site: each keeps the items that stood when it was made.
use Rattle.std.specs.Prelude.{◌≡◌, ◌<◌, ◌≤◌, ◌+◌, ◌==◌, ◌||◌, ◌&&◌, not, ℕ, Bool, true, false, List, [], ◌∷◌, length, Option, None, Some, IsTrue}
use Rattle.std.specs.Map.{lookup}
use Rattle.std.specs.BTreeMap.{is_at}
use Rattle.host_types.specs.Site.{Items, byte_cmp}
use Rattle.host_types.specs.Card.{viewed_in}
use Rattle.host_types.specs.SiteState.{SiteState, numbers_out}
use Rattle.host_types.specs.declared.pin_fault.SitePinFault.{SitePinFault}
use Rattle.host_types.specs.declared.pin_fault.SitePinFault.TheVariants as faults

-- A pin has a copy of the items, or it has the number under which the keeper of the site keeps them.
pub data Pinned : Type 0 where
  Copied : Items → Pinned
  Numbered : ℕ → Pinned

-- no more numbers are out
abbrev pub most_pins : ℕ
most_pins = 32

abbrev pub is_among : ℕ → List ℕ → Bool
is_among n [] = false
is_among n (m ∷ ns) = n == m || is_among n ns

-- whether a pin is out: a copy is always
abbrev pub is_out : SiteState → Pinned → Bool
is_out h (Copied items) = true
is_out h (Numbered n) = is_among n (numbers_out h)

-- the items that are kept under a number, where it is out
abbrev pub items_under_number : SiteState → ℕ → Option Items
items_under_number h n = lookup (λ m. m == n) h.pins

abbrev pub items_or_none : Option Items → Items
items_or_none None = []
items_or_none (Some items) = items

-- the items that a pin keeps
abbrev pub pinned_items : SiteState → Pinned → Items
pinned_items h (Copied items) = items
pinned_items h (Numbered n) = items_or_none (items_under_number h n)

-- the bytes of a view of what stands at a selector among these items
abbrev pub viewed_among : Items → List ℕ → ℕ → List ℕ
viewed_among items selector view = viewed_in (lookup (is_at (byte_cmp selector)) items) view

-- One more number is out, which wasn't, and the items that stand are kept under it. Nothing else has changed.
pub record HasNumbered (old new : SiteState) (number : ℕ) : Type 0 where
  pub room : length old.pins < most_pins
  pub fresh : is_among number (numbers_out old) ≡ false
  pub out : (n : ℕ) → is_among n (numbers_out new) ≡ (n == number || is_among n (numbers_out old))
  pub count : length new.pins ≡ length old.pins + 1
  pub keeps : IsTrue old.honest → items_under_number new number ≡ Some old.site.items
  pub others : (n : ℕ) → (n ≡ number → ⊥) → items_under_number new n ≡ items_under_number old n
  pub same : new ≡ record old { pins = new.pins }

-- A pin was made. It keeps the items that stand, and nothing else has changed.
abbrev pub IsPinned : SiteState → SiteState → Pinned → Type 0
IsPinned old new (Copied items) = (IsTrue old.honest → items ≡ old.site.items) × (new ≡ old)
IsPinned old new (Numbered n) = HasNumbered old new n

-- When no pin is made, and what stands then: all is as before.
abbrev pub IsPinFault : SiteState → SiteState → SitePinFault → Type 0
IsPinFault old new faults.Failed = (old.usable ≡ false) × (new ≡ old)
IsPinFault old new faults.Crowded = (old.usable ≡ true) × (length old.pins ≡ most_pins) × (new ≡ old)
IsPinFault old new faults.Memory = (old.usable ≡ true) × (new ≡ old)

-- A number is no longer out. A change may take more than before, and nothing else has changed.
pub record HasGivenBack (old new : SiteState) (number : ℕ) : Type 0 where
  pub out : (n : ℕ) → is_among n (numbers_out new) ≡ (not (n == number) && is_among n (numbers_out old))
  pub count : length new.pins + 1 ≡ length old.pins
  pub others : (n : ℕ) → (n ≡ number → ⊥) → items_under_number new n ≡ items_under_number old n
  pub free : old.free ≤ new.free
  pub same : new ≡ record old { pins = new.pins; free = new.free }

-- A pin was spent.
abbrev pub IsUnpinned : SiteState → SiteState → Pinned → Type 0
IsUnpinned old new (Copied items) = new ≡ old
IsUnpinned old new (Numbered n) = HasGivenBack old new n
