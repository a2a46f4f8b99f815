-- The owned nodes of a tree as new pages: each has a number of its own, and a branch names its children's.
use Rattle.std.specs.Prelude.{◌≡◌, ℕ, zero, suc, ◌+◌, ◌≤◌, ◌<◌, List, [], ◌∷◌, ◌++◌, length, take, drop}
use Rattle.page_store.specs.Sizes.{page_size}
use Rattle.page_store.specs.Commit.{numbers}
use Rattle.page_store.specs.declared.commit.NewPage.{NewPage}
use Rattle.tree_nodes.specs.Tree.{Tree, Others, page, leaf, branch, none, other, other_bytes, entry_room}
use Rattle.tree_nodes.specs.PageBytes.{page_of_tree, IsWritable}
-- how many nodes of a tree are owned
pub use Rattle.tree_nodes.specs.Tree.{owned_nodes, row_owned_nodes}

-- a tree, written as a page
abbrev pub page_for : ℕ → ℕ → ℕ → Tree → NewPage
page_for n generation level tree = record { number = n; bytes = page_of_tree n generation level tree }

-- A tree of a level stands at a page of this number once these pages are written: at the page that it is, or at a new one, behind those of the nodes under it.
abbrev mutual
  pub IsWritten : ℕ → ℕ → Tree → ℕ → List NewPage → Type 0
  IsWritten generation level (page m) n pages = (n ≡ m) × (pages ≡ [])
  IsWritten generation level (leaf pairs) n pages = pages ≡ page_for n generation level (leaf pairs) ∷ []
  IsWritten generation zero (branch first others) n pages = ⊥
  IsWritten generation (suc level) (branch first others) n pages =
      (child : ℕ) × (under : List NewPage) × (named : Others) × (rest : List NewPage) × IsWritten generation level first child under × AreWritten generation level others named rest
      × (pages ≡ (under ++ rest) ++ page_for n generation (suc level) (branch (page child) named) ∷ [])

  -- the children after the first, and the same children by the numbers at which they stand
  pub AreWritten : ℕ → ℕ → Others → Others → List NewPage → Type 0
  AreWritten generation level none named pages = (named ≡ none) × (pages ≡ [])
  AreWritten generation level (other key tree others) named pages =
      (child : ℕ) × (here : List NewPage) × (more : Others) × (rest : List NewPage) × IsWritten generation level tree child here × AreWritten generation level others more rest
      × (named ≡ other key (page child) more) × (pages ≡ here ++ rest)

-- these pages have these bytes
abbrev pub ArePut : (ℕ → List ℕ) → List NewPage → Type 0
ArePut bytes [] = Unit {0}
ArePut bytes (new ∷ pages) = (bytes new.number ≡ new.bytes) × ArePut bytes pages

-- these pages have 4,096 bytes each
abbrev pub AreWhole : List NewPage → Type 0
AreWhole [] = Unit {0}
AreWhole (new ∷ pages) = (length new.bytes ≡ page_size) × AreWhole pages

-- a page of an image of so many that is no root slot
abbrev pub IsTreePage : ℕ → ℕ → Type 0
IsTreePage pages n = (2 ≤ n) × (n < pages)

abbrev pub AreTreePages : ℕ → List NewPage → Type 0
AreTreePages count [] = Unit {0}
AreTreePages count (new ∷ pages) = IsTreePage count new.number × AreTreePages count pages

-- each owned node fits its page, and no branch stands at level 0
abbrev mutual
  pub AllFit : ℕ → Tree → Type 0
  AllFit level (page n) = Unit {0}
  AllFit level (leaf pairs) = IsWritable (leaf pairs)
  AllFit zero (branch tree others) = ⊥
  AllFit (suc level) (branch tree others) = AllFit level tree × RowFits level others × (6 + other_bytes others ≤ entry_room)

  pub RowFits : ℕ → Others → Type 0
  RowFits level none = Unit {0}
  RowFits level (other key tree others) = AllFit level tree × RowFits level others

-- Pages were added behind others, under the next numbers of a list that has one for each.
pub record Adds (given : List ℕ) (old new more : List NewPage) : Type 0 where
  pub pages : new ≡ old ++ more
  pub numbered : numbers more ≡ take (length more) (drop (length old) given)

-- The owned nodes of a tree were added as pages, and it stands at this number.
abbrev pub AddsTree : List ℕ → ℕ → ℕ → List NewPage → List NewPage → Tree → ℕ → Type 0
AddsTree given generation level old new tree n = (more : List NewPage) × Adds given old new more × IsWritten generation level tree n more

abbrev pub AddsRow : List ℕ → ℕ → ℕ → List NewPage → List NewPage → Others → Others → Type 0
AddsRow given generation level old new others named = (more : List NewPage) × Adds given old new more × AreWritten generation level others named more
