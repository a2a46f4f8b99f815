-- A search that looks at one item after another.
use Rattle.std.specs.Prelude.{◌≡◌, ℕ, Bool, true, false, List, [], ◌∷◌, fold, filter, Some}
use Rattle.std.specs.Ordering.{is_lt}
use Rattle.host_types.specs.Site.{Site, byte_cmp, item_at}
use Rattle.host_types.specs.declared.item.Item.{Item}
use Rattle.word_search.specs.Gathered.{searched_at}
use Rattle.word_search.specs.declared.find.Find.{Find}

-- what is found at a moment where all items are examined
abbrev pub all_found : ℕ → Site → List ℕ → List (List ℕ) → List Find
all_found now s scope asked = fold (searched_at now scope asked) [] s.items

-- An item stands at the selector, and where it and those above it are scanned too, all that is to be found is found.
pub record IsLeftToFilter (now : ℕ) (s : Site) (scope : List ℕ) (asked : List (List ℕ)) (found : List Find) (selector : List ℕ) : Type 0 where
  pub item : Item
  pub stands : item_at s selector ≡ Some item
  pub rest : fold (searched_at now scope asked) found ((selector, item) ∷ filter (λ e. is_lt (byte_cmp selector e.0)) s.items) ≡ all_found now s scope asked

-- Items are left, or all is found.
abbrev pub IsFilteredFurther : ℕ → Site → List ℕ → List (List ℕ) → Bool → List Find → List ℕ → Type 0
IsFilteredFurther now s scope asked true found selector = IsLeftToFilter now s scope asked found selector
IsFilteredFurther now s scope asked false found selector = found ≡ all_found now s scope asked
