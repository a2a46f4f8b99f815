-- A fresh image of a tree.
use Rattle.std.specs.Prelude.{◌≡◌, ℕ, List, [], ◌∷◌, ◌++◌, length, replicate, take, drop, Some, codes}
use Rattle.sector_device.specs.Sizes.{page_size}
use Rattle.page_store.specs.Sectors.{Image, page_of}
use Rattle.page_store.specs.Roots.{current}
use Rattle.page_store.specs.Pages.{Pair}
use Rattle.page_store.specs.Steps.{AreWritten}
use Rattle.page_store.specs.Commit.{ArePatched}
use Rattle.page_store.specs.declared.banner.Banner.{Banner}
use Rattle.page_store.specs.declared.commit.NewPage.{NewPage}
use Rattle.page_store.specs.declared.slot.Slot.{Slot}
use Rattle.tree_nodes.specs.PageBytes.{leaf_page}

-- the pages of the first tree: one leaf on page 2, or none where there are no pairs
abbrev pub first_pages : List Pair → List NewPage
first_pages [] = []
first_pages (pair ∷ pairs) = record { number = 2; bytes = leaf_page 2 1 (pair ∷ pairs) } ∷ []

-- where its root stands, 0 where there is none
abbrev pub first_root : List Pair → ℕ
first_root [] = 0
first_root (pair ∷ pairs) = 2

-- how many levels it has
abbrev pub first_height : List Pair → ℕ
first_height [] = 0
first_height (pair ∷ pairs) = 1

-- the slot over it
abbrev pub first_slot : ℕ → Banner → List Pair → Slot
first_slot pages banner pairs = record { number = 0; seal = 1; root = record { pages = pages; tree = first_root pairs; height = first_height pairs; keys = length pairs; banner = banner } }

-- the leaf stands on page 2, where there are pairs
abbrev pub HasLeaf : List Pair → Image → Type 0
HasLeaf [] image = Unit {0}
HasLeaf (pair ∷ pairs) image = page_of image 2 ≡ leaf_page 2 1 (pair ∷ pairs)

-- The current slot of an image is the one over the first tree of these pairs, which stands there byte for byte.
pub record IsFirstTree (pages : ℕ) (banner : Banner) (pairs : List Pair) (image : Image) : Type 0 where
  pub slot : current image ≡ Some (first_slot pages banner pairs)
  pub leaf : HasLeaf pairs image

-- The second slot was cleared, then pages were written, and then the page of the first slot.
pub record IsFirstWritten (pages : List NewPage) (root : List ℕ) (old new : Image) : Type 0 where
  pub cleared : Image
  pub patched : Image
  pub clears : AreWritten 8 8 (replicate page_size 0) old cleared
  pub patches : ArePatched pages cleared patched
  pub switches : AreWritten 0 8 root patched new

-- the key `I` with the record of a top menu of no entries, titled `Top`, and the key `W`, 3, `top` with no value
abbrev pub top_pairs : List Pair
top_pairs = (codes "I", 77 ∷ 0 ∷ 0 ∷ 0 ∷ 0 ∷ 44 ∷ 86 ∷ 177 ∷ 9 ∷ 3 ∷ codes "Top" ++ 0 ∷ 0 ∷ 0 ∷ 0 ∷ 0 ∷ 0 ∷ []) ∷ (codes "W" ++ 3 ∷ codes "top", []) ∷ []

-- the leaf of the first tree of these pairs: what stands before its entries, the two entries, and zeros from byte 57 on
pub record FirstLeafExample : Type 0 where
  pub head : take 24 (leaf_page 2 1 top_pairs) ≡ codes "GOPHPAGE" ++ 0 ∷ 0 ∷ 0 ∷ 2 ∷ 0 ∷ 0 ∷ 0 ∷ 0 ∷ 0 ∷ 0 ∷ 0 ∷ 1 ∷ 0 ∷ 0 ∷ 0 ∷ 2 ∷ []
  pub top : take 24 (drop 24 (leaf_page 2 1 top_pairs)) ≡ 0 ∷ 1 ∷ 0 ∷ 19 ∷ 73 ∷ 77 ∷ 0 ∷ 0 ∷ 0 ∷ 0 ∷ 44 ∷ 86 ∷ 177 ∷ 9 ∷ 3 ∷ 84 ∷ 111 ∷ 112 ∷ 0 ∷ 0 ∷ 0 ∷ 0 ∷ 0 ∷ 0 ∷ []
  pub word : take 9 (drop 48 (leaf_page 2 1 top_pairs)) ≡ 0 ∷ 5 ∷ 0 ∷ 0 ∷ 87 ∷ 3 ∷ 116 ∷ 111 ∷ 112 ∷ []
  pub zeros : drop 57 (leaf_page 2 1 top_pairs) ≡ replicate 4039 0
