-- The pages of a tree one after another, and which of them is wrong first.
use Rattle.std.specs.Prelude.{◌≡◌, ℕ, zero, suc, Bool, true, false, List, [], ◌∷◌, ◌++◌, Option, Some, None, Result, Ok, Err, ◌&&◌, not, if◌then◌else◌}
use Rattle.std.specs.Option.{is_some}
use Rattle.page_store.specs.Pages.{Child, leaf_of, branch_of}
use Rattle.page_store.specs.Content.{Found, Bounds, place_in, low_of, high_of, is_among}
use Rattle.cow_tree.specs.NamedWalks.{walk_or_name}

-- a page that stands somewhere in a tree, and whether it has the form for that place
pub record Look : Type 0 where
  pub page : ℕ
  pub has_form : Bool

abbrev pub looks_at_children : (ℕ → List ℕ → Option (List ℕ) → List Look) → List ℕ → Option (List ℕ) → List Child → List Look
looks_at_children under low high [] = []
looks_at_children under low high (child ∷ children) = under child.page (low_of low child.key) (high_of children high) ++ looks_at_children under low high children

-- a page and what stands under it, which is nothing where it has not the form
abbrev pub look_and_under : ℕ → (List Child → List Look) → Option (List Child) → List Look
look_and_under page under None = record { page = page; has_form = false } ∷ []
look_and_under page under (Some children) = record { page = page; has_form = true } ∷ under children

-- the pages from one on, in the order of their keys, each before those under it
abbrev pub looks_at : (ℕ → List ℕ) → Bounds → ℕ → ℕ → List ℕ → Option (List ℕ) → List Look
looks_at bytes bounds zero page low high = record { page = page; has_form = is_some (leaf_of (place_in bounds 0 page) low high (bytes page)) } ∷ []
looks_at bytes bounds (suc level) page low high = look_and_under page (looks_at_children (looks_at bytes bounds level) low high) (branch_of (place_in bounds (suc level) page) low high (bytes page))

-- the first that has not the form, or was looked at before
abbrev pub first_wrong : List ℕ → List Look → Option ℕ
first_wrong before [] = None
first_wrong before (look ∷ looks) = if look.has_form && not (is_among look.page before) then first_wrong (before ++ look.page ∷ []) looks else Some look.page

abbrev pub named_or_none : Result Found ℕ → Option ℕ
named_or_none (Ok found) = None
named_or_none (Err page) = Some page

-- A walk names the first page that is wrong.
abbrev pub NamesTheFirst : Type 0
NamesTheFirst =
    (bytes : ℕ → List ℕ) (bounds : Bounds) (level page : ℕ) (low : List ℕ) (high : Option (List ℕ)) → named_or_none (walk_or_name bytes bounds level page low high []) ≡ first_wrong [] (looks_at bytes bounds level page low high)
