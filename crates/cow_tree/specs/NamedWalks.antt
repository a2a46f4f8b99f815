-- A walk that names the first page that is wrong: pages in the order of their keys, each before those under it.
use Rattle.std.specs.Prelude.{ℕ, zero, suc, List, [], ◌∷◌, ◌++◌, length, Option, Some, None, Result, Ok, Err, nat_lt, nat_le, ◌==◌, ◌&&◌, not}
use Rattle.page_store.specs.Reading.{where_true}
use Rattle.page_store.specs.Pages.{Child, leaf_of, branch_of}
use Rattle.page_store.specs.Content.{Found, Bounds, place_in, nothing_found, joined, low_of, high_of, is_among}
use Rattle.page_store.specs.declared.slot.Slot.{Slot}

infixl 10 ◌>>=◌
-- what follows, or the page that was named
abbrev pub ◌>>=◌ : {A B : Type 0} → Result A ℕ → (A → Result B ℕ) → Result B ℕ
(Ok x) >>= f = f x
(Err page) >>= f = Err page

-- what is there, or this page
abbrev pub or_name : {A : Type 0} → ℕ → Option A → Result A ℕ
or_name page (Some x) = Ok x
or_name page None = Err page

-- what a page holds by its form, or this page: where it hasn't the form, and where it was reached before
abbrev pub read_or_name : {A : Type 0} → ℕ → List ℕ → Option A → Result A ℕ
read_or_name page reached form = or_name page (where_true (not (is_among page reached)) form)

-- what stands under children, each of them after all that stands under those before it
abbrev pub fan_or_name : (ℕ → List ℕ → Option (List ℕ) → List ℕ → Result Found ℕ) → List ℕ → Option (List ℕ) → List Child → List ℕ → Result Found ℕ
fan_or_name under low high [] reached = Ok nothing_found
fan_or_name under low high (child ∷ children) reached = do
  here ← under child.page (low_of low child.key) (high_of children high) reached
  others ← fan_or_name under low high children (reached ++ here.pages)
  Ok (joined here others)

-- what stands at and under a page between two keys, once some pages were reached
abbrev pub walk_or_name : (ℕ → List ℕ) → Bounds → ℕ → ℕ → List ℕ → Option (List ℕ) → List ℕ → Result Found ℕ
walk_or_name bytes bounds zero page low high reached = do
  pairs ← read_or_name page reached (leaf_of (place_in bounds 0 page) low high (bytes page))
  Ok (record { pages = page ∷ []; pairs = pairs })
walk_or_name bytes bounds (suc level) page low high reached = do
  children ← read_or_name page reached (branch_of (place_in bounds (suc level) page) low high (bytes page))
  under ← fan_or_name (walk_or_name bytes bounds level) low high children (reached ++ page ∷ [])
  Ok (record { pages = page ∷ under.pages; pairs = under.pairs })

-- the tree of a root, of a height, or the slot's page: where the root is no page of the image, and where the tree is too high
abbrev pub root_or_name : ℕ → (ℕ → List ℕ) → Bounds → ℕ → ℕ → List ℕ → Result Found ℕ
root_or_name slot bytes bounds zero page reached = or_name slot (where_true (page == 0) (Some nothing_found))
root_or_name slot bytes bounds (suc level) page reached = do
  root ← or_name slot (where_true (nat_le level 15 && (nat_le 2 page && nat_lt page bounds.pages)) (Some page))
  walk_or_name bytes bounds level root [] None reached

-- A tree under a slot, or the page that is wrong. The count of its pairs comes last, and is the slot's fault.
unfoldable pub tree_or_name : Slot → (ℕ → List ℕ) → Result Found ℕ
tree_or_name slot bytes = do
  found ← root_or_name slot.number bytes (record { pages = slot.root.pages; seal = slot.seal }) slot.root.height slot.root.tree []
  or_name slot.number (where_true (length found.pairs == slot.root.keys) (Some found))

-- the tree alone
abbrev pub found_or_none : Result Found ℕ → Option Found
found_or_none (Ok found) = Some found
found_or_none (Err page) = None
