-- Pins of a key-value store: each keeps the pairs that stood when it was made.
use Rattle.std.proofs.Common.{◌∙◌, ap, refl}
use Rattle.std.specs.Prelude.{[], ◌∷◌, map, ◌≡◌, ◌≤◌, ◌<◌, ◌+◌, ◌==◌, ◌||◌, ◌&&◌, not, ℕ, Bool, true, false, List, length, Option, Some, IsTrue}
use Rattle.std.specs.Map.{lookup}
use Rattle.page_store.specs.Content.{is_among}
use Rattle.page_store.specs.Pages.{Pair}
use Rattle.page_store.specs.StoreState.{StoreState, numbers_out}
use Rattle.page_store.specs.declared.pin_fault.PinFault.{PinFault}
use Rattle.page_store.specs.declared.pin_fault.PinFault.TheVariants as faults

-- no more pins are out
abbrev pub most_pins : ℕ
most_pins = 32

-- whether the pin of a number is out
abbrev pub is_out : StoreState → ℕ → Bool
is_out h number = is_among number (numbers_out h)

-- the pairs that the pin of a number keeps, or none where it isn't out
abbrev pub pairs_at : StoreState → ℕ → Option (List Pair)
pairs_at h number = lookup (λ n. n == number) h.pins

-- all other pins keep what they kept
abbrev pub OthersStay : ℕ → StoreState → StoreState → Type 0
OthersStay number old new = (n : ℕ) → (n ≡ number → ⊥) → pairs_at new n ≡ pairs_at old n

-- One more pin is out, of a number that wasn't, and keeps the current pairs. Nothing else has changed.
pub record IsStorePinned (old new : StoreState) (number : ℕ) : Type 0 where
  pub usable : old.usable ≡ true
  pub room : length old.pins < most_pins
  pub fresh : is_out old number ≡ false
  pub out : (n : ℕ) → is_out new n ≡ (n == number || is_out old n)
  pub count : length new.pins ≡ length old.pins + 1
  pub keeps : IsTrue old.honest → pairs_at new number ≡ Some old.pairs
  pub others : IsTrue old.honest → OthersStay number old new
  pub same : new ≡ record old { pins = new.pins }

-- When no pin is given, and what stands then: all is as before.
abbrev pub IsStorePinFault : StoreState → StoreState → PinFault → Type 0
IsStorePinFault old new faults.Failed = (old.usable ≡ false) × (new ≡ old)
IsStorePinFault old new faults.Crowded = (old.usable ≡ true) × (length old.pins ≡ most_pins) × (new ≡ old)

-- One pin is no longer out. More may be free, and nothing else has changed.
pub record IsStoreUnpinned (old new : StoreState) (number : ℕ) : Type 0 where
  pub out : (n : ℕ) → is_out new n ≡ (not (n == number) && is_out old n)
  pub count : length new.pins + 1 ≡ length old.pins
  pub others : IsTrue old.honest → OthersStay number old new
  pub free : old.free ≤ new.free
  pub same : new ≡ record old { pins = new.pins; free = new.free }

-- ---- where no pin is out

none_numbered : (pins : List (ℕ × List Pair)) → map (λ (pin : ℕ × List Pair). pin.0) pins ≡ [] → pins ≡ []
none_numbered [] e = refl
none_numbered (pin ∷ pins) e = absurd (cc e)

pub none_out : (old new : StoreState) → numbers_out new ≡ numbers_out old → old.pins ≡ [] → new.pins ≡ []
none_out old new same none = none_numbered new.pins (same ∙ ap (λ (pins : List (ℕ × List Pair)). map (λ (pin : ℕ × List Pair). pin.0) pins) none)
