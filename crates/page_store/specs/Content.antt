-- What an image holds.
use Rattle.std.proofs.Common.{arith}
use Rattle.std.proofs.lemmas.Bool.{ne_eqb}
use Rattle.std.specs.Prelude.{◌≡◌, ◌<◌, refl, IsTrue, ℕ, zero, suc, Bool, true, false, List, [], ◌∷◌, ◌++◌, length, Option, Some, None, nat_lt, nat_le, ◌==◌, ◌||◌, ◌&&◌, not}
use Rattle.page_store.specs.Reading.{◌>>=◌, where_true}
use Rattle.page_store.specs.Sectors.{Image, page_of}
use Rattle.page_store.specs.Roots.{current}
use Rattle.page_store.specs.Batch.{is_map}
use Rattle.page_store.specs.Flat.{flat_walk, half_size, is_half, numbers_from}
use Rattle.page_store.specs.declared.banner.Banner.{Banner}
use Rattle.page_store.specs.declared.slot.Slot.{Slot}
use Rattle.page_store.specs.Pages.{Pair, Child, Place, leaf_of, branch_of}

-- the pages that were reached, in the order of the walk, and their pairs
pub record Found : Type 0 where
  pub pages : List ℕ
  pub pairs : List Pair

-- pages of an image and the current seal
pub record Bounds : Type 0 where
  pub pages : ℕ
  pub seal : ℕ

abbrev pub place_in : Bounds → ℕ → ℕ → Place
place_in bounds level page = record { page = page; level = level; pages = bounds.pages; seal = bounds.seal }

abbrev pub nothing_found : Found
nothing_found = record { pages = []; pairs = [] }

abbrev pub joined : Found → Found → Found
joined a b = record { pages = a.pages ++ b.pages; pairs = a.pairs ++ b.pairs }

-- from which key on
abbrev pub low_of : List ℕ → List ℕ → List ℕ
low_of low [] = low
low_of low (b ∷ bs) = b ∷ bs

-- up to which key
abbrev pub high_of : List Child → Option (List ℕ) → Option (List ℕ)
high_of [] high = high
high_of (child ∷ children) high = Some child.key

-- what stands under children
abbrev pub fan : (ℕ → List ℕ → Option (List ℕ) → Option Found) → List ℕ → Option (List ℕ) → List Child → Option Found
fan under low high [] = Some nothing_found
fan under low high (child ∷ children) = do
  here ← under child.page (low_of low child.key) (high_of children high)
  others ← fan under low high children
  Some (joined here others)

-- what stands at and under a page between two keys
abbrev pub walk : (ℕ → List ℕ) → Bounds → ℕ → ℕ → List ℕ → Option (List ℕ) → Option Found
walk bytes bounds zero page low high = do
  pairs ← leaf_of (place_in bounds 0 page) low high (bytes page)
  Some (record { pages = page ∷ []; pairs = pairs })
walk bytes bounds (suc level) page low high = do
  children ← branch_of (place_in bounds (suc level) page) low high (bytes page)
  under ← fan (walk bytes bounds level) low high children
  Some (record { pages = page ∷ under.pages; pairs = under.pairs })

abbrev pub is_among : ℕ → List ℕ → Bool
is_among n [] = false
is_among n (m ∷ ns) = n == m || is_among n ns

-- no page stands twice
abbrev pub are_distinct : List ℕ → Bool
are_distinct [] = true
are_distinct (n ∷ ns) = not (is_among n ns) && are_distinct ns

-- the tree of a root, of a height
abbrev pub tree_of : (ℕ → List ℕ) → Bounds → ℕ → ℕ → Option Found
tree_of bytes bounds zero page = where_true (page == 0) (Some nothing_found)
tree_of bytes bounds (suc level) page = where_true (nat_le level 15 && (nat_le 2 page && nat_lt page bounds.pages)) (walk bytes bounds level page [] None)

-- a tree under a slot, by the bytes of the pages
unfoldable pub tree_found : Slot → (ℕ → List ℕ) → Option Found
tree_found slot bytes = do
  found ← tree_of bytes (record { pages = slot.root.pages; seal = slot.seal }) slot.root.height slot.root.tree
  where_true (are_distinct found.pages && (length found.pairs == slot.root.keys)) (Some found)

-- the pairs of the half under a slot, by the bytes of the pages
unfoldable pub flat_found : Slot → (ℕ → List ℕ) → Option Found
flat_found slot bytes = do
  pairs ← flat_walk bytes slot.seal (half_size slot.root.pages) slot.root.tree 0 slot.root.keys
  where_true (is_half slot.root && is_map pairs) (Some (record { pages = numbers_from slot.root.tree (half_size slot.root.pages); pairs = pairs }))

-- the versions of images that are trees of pages; what their pairs represent is another matter
abbrev pub is_tree_version : ℕ → Bool
is_tree_version version = version == 1 || version == 2

-- what a slot's record represents, by the bytes of the pages: version 0 is flat, 1 and 2 are trees
abbrev pub found_as : ℕ → Slot → (ℕ → List ℕ) → Option Found
found_as zero slot bytes = flat_found slot bytes
found_as (suc zero) slot bytes = tree_found slot bytes
found_as (suc (suc zero)) slot bytes = tree_found slot bytes
found_as (suc (suc (suc version))) slot bytes = None

pub tree_as : (version : ℕ) (slot : Slot) (bytes : ℕ → List ℕ) → IsTrue (is_tree_version version) → found_as version slot bytes ≡ tree_found slot bytes
tree_as zero slot bytes h = absurd (cc h)
tree_as (suc zero) slot bytes h = refl
tree_as (suc (suc zero)) slot bytes h = refl
tree_as (suc (suc (suc version))) slot bytes h =
    let one : (suc (suc (suc version)) == 1) ≡ false = ne_eqb (suc (suc (suc version))) 1 (λ e. omega (arith, e)) in
    let two : (suc (suc (suc version)) == 2) ≡ false = ne_eqb (suc (suc (suc version))) 2 (λ e. omega (arith, e)) in
    let none : (false || false) ≡ true = rw (one, two) at h in
    absurd (cc none)

pub not_flat : (version : ℕ) → IsTrue (is_tree_version version) → 0 < version
not_flat zero h = absurd (cc h)
not_flat (suc version) h = omega arith

unfoldable pub content_under : Slot → (ℕ → List ℕ) → Option Found
content_under slot bytes = found_as slot.root.banner.version slot bytes

-- the current slot, and what stands under it
unfoldable pub content : Image → Option (Slot × Found)
content image = do
  slot ← current image
  found ← content_under slot (page_of image)
  Some (slot, found)

-- the pairs and the banner of an image
abbrev pub pairs_and_banner_of : Slot × Found → List Pair × Banner
pairs_and_banner_of c = (c.1.pairs, c.0.root.banner)

abbrev pub pairs_and_banner : Option (Slot × Found) → Option (List Pair × Banner)
pairs_and_banner None = None
pairs_and_banner (Some c) = Some (pairs_and_banner_of c)

-- an image has these pairs and this banner
abbrev pub HasContent : Image → List Pair → Banner → Type 0
HasContent image pairs banner = pairs_and_banner (content image) ≡ Some (pairs, banner)

-- the version of the images that are opened: that of flat pages
abbrev pub is_opened : ℕ → Bool
is_opened version = version == 0

-- An image has these pairs and this banner, in the version that is opened.
abbrev pub ImageHas : Image → List Pair → Banner → Type 0
ImageHas image pairs banner = HasContent image pairs banner × IsTrue (is_opened banner.version)
