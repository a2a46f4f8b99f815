-- The items of a site one after another.
use Rattle.std.specs.Prelude.{ℕ, ◌==◌, if◌then◌else◌, List, [], ◌∷◌, Option, Some, None, ◌≡◌, false}
use Rattle.std.specs.Option.{option_map}
use Rattle.host_types.specs.Site.{Site, item_after}
use Rattle.host_types.specs.Items.{is_selector}
use Rattle.host_types.specs.Card.{card_of}
use Rattle.host_types.specs.declared.item.Item.{Item}
use Rattle.host_types.specs.declared.card.Card.{Card}

abbrev pub Entry : Type 0
Entry = List ℕ × Item

abbrev pub first_of : List Entry → Option Entry
first_of [] = None
first_of (e ∷ es) = Some e

-- the first item whose selector is above this one; with no selector, the first of all
abbrev pub first_after : Site → Option (List ℕ) → Option Entry
first_after s None = first_of s.items
first_after s (Some selector) = item_after s selector

-- its selector and its card
abbrev pub card_after : Site → Option (List ℕ) → Option (List ℕ × Card)
card_after s after = option_map (λ e. (e.0, card_of e.1)) (first_after s after)

-- the selector of the first item above this one
abbrev pub selector_after : Site → List ℕ → Option (List ℕ)
selector_after s selector = option_map (λ e. e.0) (item_after s selector)

-- the selector of which a key is that of the record; other keys are of none
abbrev pub recorded_by : List ℕ → Option (List ℕ)
recorded_by [] = None
recorded_by (tag ∷ rest) = if tag == 73 then Some rest else None

-- a name stands there, and it is no selector's
abbrev pub IsInvalid : Option (List ℕ) → Type 0
IsInvalid None = ⊥
IsInvalid (Some name) = is_selector name ≡ false
