-- Trees that pins keep.
use Rattle.std.specs.Prelude.{◌≡◌, ◌≤◌, ◌<◌, ◌||◌, ℕ, suc, Bool, false, List, [], ◌∷◌, Option, Some, None, IsTrue, IfSome, length, map, slice_index_or}
use Rattle.page_alloc.specs.LedgerState.{LedgerState, has_page, is_held}
use Rattle.page_store.specs.Sectors.{Image, page_of}
use Rattle.page_store.specs.Pages.{Pair}
use Rattle.page_store.specs.Content.{Found, Bounds, nothing_found, tree_of, is_among}
use Rattle.page_store.specs.declared.slot.Slot.{Slot}
use Rattle.cow_tree.specs.declared.tree_root.TreeRoot.{TreeRoot}

abbrev pub or_nothing : Option Found → Found
or_nothing None = nothing_found
or_nothing (Some found) = found

-- the pages of its image and its seal
abbrev pub bounds_at : TreeRoot → Bounds
bounds_at tree = record { pages = tree.pages; seal = tree.seal }

-- what stands there, by the bytes of the pages
abbrev pub tree_at : TreeRoot → (ℕ → List ℕ) → Option Found
tree_at tree bytes = tree_of bytes (bounds_at tree) tree.height tree.tree

-- its pages and its pairs in an image
abbrev pub found_at : TreeRoot → Image → Found
found_at tree image = or_nothing (tree_at tree (page_of image))

-- the tree under a slot
abbrev pub tree_under : Slot → TreeRoot
tree_under slot = record { pages = slot.root.pages; seal = slot.seal; height = slot.root.height; tree = slot.root.tree }

-- the generation that is pinned, if any
abbrev pub seal_of : Option TreeRoot → Option ℕ
seal_of None = None
seal_of (Some tree) = Some tree.seal

-- the pins that are out, from this number on, each with the pairs that it keeps
abbrev pub pins_from : Image → ℕ → List (Option TreeRoot) → List (ℕ × List Pair)
pins_from image number [] = []
pins_from image number (None ∷ trees) = pins_from image (suc number) trees
pins_from image number (Some tree ∷ trees) = (number, (found_at tree image).pairs) ∷ pins_from image (suc number) trees

-- whether one of these trees has a page
abbrev pub keep_page : Image → List (Option TreeRoot) → ℕ → Bool
keep_page image [] n = false
keep_page image (None ∷ trees) n = keep_page image trees n
keep_page image (Some tree ∷ trees) n = is_among n (found_at tree image).pages || keep_page image trees n

-- where there is a tree, its root is a page of the image, and it has at most 16 levels
abbrev pub IsRootedAt : TreeRoot → Type 0
IsRootedAt tree = 0 < tree.height → (tree.height ≤ 16) × (2 ≤ tree.tree) × (tree.tree < tree.pages)

-- a tree in an image of so many pages
pub record IsInside (pages : ℕ) (tree : TreeRoot) : Type 0 where
  pub size : tree.pages ≡ pages
  pub rooted : IsRootedAt tree

-- The pins that are out in the ledger are of the generations of these trees, by the pins' numbers.
pub record ArePinned (pages : ℕ) (ledger : LedgerState) (trees : List (Option TreeRoot)) : Type 0 where
  pub count : length trees ≡ 32
  pub seals : ledger.pins ≡ map seal_of trees
  pub inside : (number : ℕ) (tree : TreeRoot) → slice_index_or trees number None ≡ Some tree → IsInside pages tree

-- A tree stands in the image, and its generation has exactly its pages.
pub record IsKeptTree (image : Image) (ledger : LedgerState) (tree : TreeRoot) : Type 0 where
  pub found_is : tree_at tree (page_of image) ≡ Some (found_at tree image)
  pub has : (n : ℕ) → has_page ledger tree.seal n ≡ is_among n (found_at tree image).pages

-- Each tree that a pin keeps stands in the image.
abbrev pub PinnedTreesAreKept : Image → LedgerState → List (Option TreeRoot) → Type 0
PinnedTreesAreKept image ledger trees = (number : ℕ) (tree : TreeRoot) → slice_index_or trees number None ≡ Some tree → IsKeptTree image ledger tree

-- Each page that one of these trees has in an image has the same bytes in another.
abbrev pub PinnedPagesStay : List (Option TreeRoot) → Image → Image → Type 0
PinnedPagesStay trees old new = (n : ℕ) → IsTrue (keep_page old trees n) → page_of new n ≡ page_of old n

-- The pages that generations in use have are the same.
abbrev pub HeldPagesStay : LedgerState → (ℕ → List ℕ) → (ℕ → List ℕ) → Type 0
HeldPagesStay ledger old new = (n : ℕ) → 2 ≤ n → IsTrue (is_held ledger n) → old n ≡ new n

-- Each generation that a pin keeps has the pages that it had.
abbrev pub PinnedStay : LedgerState → LedgerState → Type 0
PinnedStay old new = (number : ℕ) → IfSome (slice_index_or old.pins number None) (λ kept. (page : ℕ) → page < length old.lives → has_page new kept page ≡ has_page old kept page)
