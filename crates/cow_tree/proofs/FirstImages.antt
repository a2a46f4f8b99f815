-- The first tree of an image.
use Rattle.std.proofs.Common.{◌≡◌, inr, ℕ, ◌≤◌, true, false, List, [], ◌∷◌, length, map, replicate, Some, None, refl, sym, ap, subst, ◌∙◌, arith, eq-eqb}
use Rattle.std.specs.Prelude.{IsTrue}
use Rattle.std.specs.List.{list_all}
use Rattle.std.proofs.lemmas.Bool.{lt-ltb}
use Rattle.page_store.specs.Sectors.{Image, page_of}
use Rattle.page_store.specs.Roots.{current, greatest_seal}
use Rattle.page_store.specs.Keys.{rises, is_between}
use Rattle.page_store.specs.Pages.{Pair, key_of, leaf_of, are_leaf}
use Rattle.page_store.specs.Batch.{is_map, is_pair}
use Rattle.page_store.specs.Content.{tree_as, is_tree_version, Found, Bounds, is_among, place_in, walk, tree_of, tree_found, content_under, pairs_and_banner, HasContent}
use Rattle.page_store.specs.Switch.{IsSlotPage, IsSwitched}
use Rattle.page_store.specs.Commit.{numbers, patched}
use Rattle.page_store.specs.Formatting.{IsFirst}
use Rattle.page_store.specs.declared.banner.Banner.{Banner}
use Rattle.page_store.specs.declared.slot.Slot.{Slot}
use Rattle.page_store.proofs.CommitImages.{both_true}
use Rattle.page_store.proofs.Fields.{bind_again}
use Rattle.page_store.proofs.FreshImages.{cleared_current, cleared_greatest}
use Rattle.page_store.proofs.Phases.{content-of}
use Rattle.page_store.proofs.Switches.{switched}
use Rattle.page_store.proofs.UntouchedPages.{page_of-same}
use Rattle.tree_nodes.specs.PageBytes.{leaf_page}
use Rattle.tree_nodes.specs.Tree.{entry_room, leaf_bytes}
use Rattle.tree_nodes.specs.Valid.{IsValidLeaf}
use Rattle.tree_nodes.proofs.EncodedPages.{leaf_again}
use Rattle.tree_nodes.proofs.ListsOfSteps.{everywhere}
use Rattle.cow_tree.specs.Formatting.{first_pages, first_slot, HasLeaf, IsFirstTree, IsFirstWritten}

-- the pages of the first tree, and its pairs
abbrev first_found : List Pair → Found
first_found [] = record { pages = []; pairs = [] }
first_found (pair ∷ pairs) = record { pages = 2 ∷ []; pairs = pair ∷ pairs }

all_everywhere : (keys : List (List ℕ)) → list_all (is_between [] None) keys ≡ true
all_everywhere [] = refl
all_everywhere (key ∷ keys) = rw (everywhere key) (all_everywhere keys)

valid_leaf : (pair : Pair) (pairs : List Pair) → is_map (pair ∷ pairs) ≡ true → leaf_bytes (pair ∷ pairs) ≤ entry_room → IsValidLeaf (pair ∷ pairs) [] None
valid_leaf pair pairs map_is room =
    let parts = both_true (rises (map key_of (pair ∷ pairs))) (list_all is_pair (pair ∷ pairs)) map_is in
    let rising : are_leaf [] None (pair ∷ pairs) ≡ true = rw (parts.0, all_everywhere (map key_of (pair ∷ pairs))) refl in
    (rising, parts.1, tt, room)

-- the leaf of the first tree is read as its pairs
leaf_read : (bytes : ℕ → List ℕ) (pages : ℕ) (pair : Pair) (pairs : List Pair) → bytes 2 ≡ leaf_page 2 1 (pair ∷ pairs) → is_map (pair ∷ pairs) ≡ true → leaf_bytes (pair ∷ pairs) ≤ entry_room
    → walk bytes (record { pages = pages; seal = 1 }) 0 2 [] None ≡ Some (first_found (pair ∷ pairs))
leaf_read bytes pages pair pairs here map_is room =
    let bounds : Bounds = record { pages = pages; seal = 1 } in
    let again = leaf_again bounds 2 1 (pair ∷ pairs) [] None (omega arith) (omega arith) (omega arith) (omega arith) (valid_leaf pair pairs map_is room) in
    bind_again (leaf_of (place_in bounds 0 2) [] None (bytes 2)) _ (pair ∷ pairs) (Some (first_found (pair ∷ pairs))) (ap (leaf_of (place_in bounds 0 2) [] None) here ∙ again) refl

-- what stands under the first slot, by the bytes of page 2
tree_read : (bytes : ℕ → List ℕ) (pages : ℕ) (banner : Banner) (pairs : List Pair) → 16 ≤ pages → is_map pairs ≡ true → leaf_bytes pairs ≤ entry_room → (bytes 2 ≡ patched (first_pages pairs) bytes 2)
    → tree_found (first_slot pages banner pairs) bytes ≡ Some (first_found pairs)
unfolding tree_found
tree_read bytes pages banner [] least map_is room here = refl
tree_read bytes pages banner (pair ∷ pairs) least map_is room here =
    let bounds : Bounds = record { pages = pages; seal = 1 } in
    let inside = lt-ltb 2 pages (omega (arith, least)) in
    let all : tree_of bytes bounds 1 2 ≡ Some (first_found (pair ∷ pairs)) = rw inside (leaf_read bytes pages pair pairs here map_is room) in
    bind_again (tree_of bytes bounds 1 2) _ (first_found (pair ∷ pairs)) (Some (first_found (pair ∷ pairs))) all (rw (eq-eqb (length (pair ∷ pairs)) (length (pair ∷ pairs)) refl) refl)

under_first : (bytes : ℕ → List ℕ) (pages : ℕ) (banner : Banner) (pairs : List Pair) → IsTrue (is_tree_version banner.version) → 16 ≤ pages → is_map pairs ≡ true → leaf_bytes pairs ≤ entry_room → (bytes 2 ≡ patched (first_pages pairs) bytes 2)
    → content_under (first_slot pages banner pairs) bytes ≡ Some (first_found pairs)
unfolding content_under
under_first bytes pages banner pairs version least map_is room here =
    tree_as banner.version (first_slot pages banner pairs) bytes version ∙ tree_read bytes pages banner pairs least map_is room here

-- the page of a slot is none of the first tree's
first_out : (pairs : List Pair) → is_among 1 (numbers (first_pages pairs)) ≡ false
first_out [] = refl
first_out (pair ∷ pairs) = refl

found_pairs : (pairs : List Pair) → (first_found pairs).pairs ≡ pairs
found_pairs [] = refl
found_pairs (pair ∷ pairs) = refl

-- what page 2 holds once the first tree is written, whatever the other pages hold
second_page : (pairs : List Pair) (old new : ℕ → List ℕ) → new 2 ≡ patched (first_pages pairs) old 2 → new 2 ≡ patched (first_pages pairs) new 2
second_page [] old new here = refl
second_page (pair ∷ pairs) old new here = here

leaf_is : (pairs : List Pair) (image : Image) → page_of image 2 ≡ patched (first_pages pairs) (page_of image) 2 → HasLeaf pairs image
leaf_is [] image here = tt
leaf_is (pair ∷ pairs) image here = here

module _ (pages : ℕ) (banner : Banner) (pairs : List Pair) (root : List ℕ) (old new : Image) (page : IsSlotPage (length old) (first_slot pages banner pairs) root) (done : IsFirstWritten (first_pages pairs) root old new) where
  abbrev slot : Slot
  slot = first_slot pages banner pairs

  size : length done.patched ≡ length old
  size = done.patches.outside.size ∙ done.clears.size

  switch : IsSwitched slot done.patched new
  switch = switched slot root done.patched new (subst (λ (n : ℕ). IsSlotPage n slot root) (sym size) page) done.switches

  now : current new ≡ Some slot
  now = cleared_current slot (replicate 4096 0) old done.cleared done.patched new (first_pages pairs) refl refl done.clears (first_out pairs) done.patches switch

  greatest : greatest_seal new 16 ≡ 1
  greatest = cleared_greatest slot (replicate 4096 0) old done.cleared done.patched new (first_pages pairs) refl refl refl done.clears (first_out pairs) done.patches switch

  second : page_of new 2 ≡ patched (first_pages pairs) (page_of new) 2
  second = second_page pairs (page_of done.cleared) (page_of new) (page_of-same new done.patched 2 (λ k low high. switch.others k (inr (omega (arith, low)))) ∙ done.patches.bytes 2)

  pub is_first_tree : IsFirstTree pages banner pairs new
  is_first_tree = record { slot = now; leaf = leaf_is pairs new second }

  pub is_first : IsFirst pages new
  is_first = record { slot = slot; current_is = now; number = refl; seal = refl; greatest = greatest; size = refl }

  pub has_content : IsTrue (is_tree_version banner.version) → 16 ≤ pages → is_map pairs ≡ true → leaf_bytes pairs ≤ entry_room → HasContent new pairs banner
  has_content version least map_is room =
      let under = under_first (page_of new) pages banner pairs version least map_is room second in
      ap pairs_and_banner (content-of new slot (first_found pairs) now under) ∙ ap (λ (l : List Pair). Some (l, banner)) (found_pairs pairs)
