-- A new image in filled pages.
use Rattle.std.proofs.Common.{◌≡◌, ◌≤◌, ◌+◌, ◌-◌, ◌*◌, ◌^◌, inr, ℕ, suc, true, false, List, [], ◌∷◌, length, replicate, Option, Some, None, refl, sym, ap, subst, ◌∙◌, arith, IsTrue}
use Rattle.std.specs.Prelude.{min}
use Rattle.page_store.specs.Flat.{numbers_from}
use Rattle.page_store.specs.Sectors.{Image, page_of}
use Rattle.page_store.specs.Roots.{current, greatest_seal}
use Rattle.page_store.specs.Pages.{Pair}
use Rattle.page_store.specs.Batch.{is_map}
use Rattle.page_store.specs.Content.{tree_as, is_tree_version, Found, Bounds, nothing_found, is_among, tree_found, content_under, pairs_and_banner}
use Rattle.page_store.specs.Switch.{IsSlotPage, IsSwitched}
use Rattle.page_store.specs.Commit.{numbers, patched}
use Rattle.page_store.specs.declared.banner.Banner.{Banner}
use Rattle.page_store.specs.declared.commit.NewPage.{NewPage}
use Rattle.page_store.specs.declared.slot.Slot.{Slot}
use Rattle.page_store.proofs.FreshImages.{cleared_current, cleared_greatest}
use Rattle.page_store.proofs.OtherHalfCommits.{before_first}
use Rattle.page_store.proofs.Phases.{content-of}
use Rattle.page_store.proofs.Switches.{switched}
use Rattle.page_store.proofs.UntouchedPages.{page_of-same}
use Rattle.tree_nodes.specs.Tree.{Tree, OldPages, page, leaf, branch, pairs_of, pages_of}
use Rattle.tree_nodes.specs.Image.{old_of}
use Rattle.tree_nodes.specs.Growth.{owned_under}
use Rattle.tree_nodes.specs.Steps.{RootState, IsValidRoot, root_pairs}
use Rattle.tree_nodes.specs.Valid.{left_pages}
use Rattle.tree_pages.specs.Reached.{times, reached, AreKept, IsLater, FindsTree, HoldsTree, all_under}
use Rattle.tree_pages.specs.Written.{IsWritten, ArePut, IsTreePage, AreTreePages}
use Rattle.tree_pages.proofs.PagesPut.{pages_are_put, all_used}
use Rattle.tree_pages.proofs.FoundTrees.{found_tree}
use Rattle.tree_pages.proofs.RootsWritten.{holds_tree}
use Rattle.tree_loading.specs.Filled.{filled}
use Rattle.tree_loading.proofs.RootsMade.{filled_pages, filled_valid, filled_pairs, filled_height}
use Rattle.cow_tree.specs.Formatting.{IsFirstWritten}
use Rattle.cow_tree.specs.TreeState.{found_under}
use Rattle.cow_tree.specs.PinnedTrees.{or_nothing}
use Rattle.cow_tree.specs.Plans.{IsRootInside}
use Rattle.cow_tree.specs.Compacting.{most_pairs}
use Rattle.cow_tree.proofs.AllRetired.{filled_bounded}
use Rattle.cow_tree.proofs.PageCounts.{numbers_length, same_length, all_pages}
use Rattle.cow_tree.proofs.RootsPlaced.{valid_root_fits, root_inside}
use Rattle.filled_images.specs.FilledImages.{pages_for, RootFits, IsTreeMade, filled_slot, IsImageOf, HasFilled}
use Rattle.filled_images.specs.declared.filled_image.FilledImage.{FilledImage}
use Rattle.filled_images.proofs.PageNumbers.{so_many, numbered_once, all_numbers, pages_inside, tree_pages_inside}

-- ---- the pages of a filled tree

-- no pages of an image, for trees that name none
abbrev no_old : OldPages
no_old = record { pairs = λ n. []; stands = λ level n low high. false; opened = λ level n. None }

pub filled_fits : (pairs : List Pair) → is_map pairs ≡ true → RootFits (filled pairs)
filled_fits pairs map tree is = valid_root_fits no_old tree (filled pairs).height ((filled pairs).height - 1) (subst (λ (o : Option Tree). IsValidRoot no_old o (filled pairs).height) is (filled_valid no_old pairs map)) refl

-- the new pages have the numbers from 2 on, one for each node
pub made_numbers : (given : List ℕ) (height : ℕ) (root : Option Tree) (pages : List NewPage) (n : ℕ) → length given ≡ owned_under root → IsTreeMade given height root pages n → numbers pages ≡ given
made_numbers [] height None pages n count made = ap numbers made.0
made_numbers (m ∷ given) height None pages n count made = absurd (omega (arith, count))
made_numbers given height (Some tree) pages n count made = (all_used given 1 (height - 1) pages tree n count made).1

-- what the filled tree takes, by a count that stops at the greatest of 64 bits
pub need_is : (pairs : List Pair) (need : ℕ) (tree : RootState) → is_map pairs ≡ true → length pairs ≤ most_pairs → tree ≡ filled pairs → need ≡ min (owned_under tree.root) (2 ^ 64 - 1) → need ≡ pages_for pairs
need_is pairs need tree map few is exact = filled_bounded pairs need map few (let t = ap (λ (s : RootState). owned_under s.root) is in omega (arith, exact, t))

-- the pages that were made are those of the filled tree
pub tree_made : (pairs : List Pair) (need : ℕ) (tree : RootState) (given : List ℕ) (pages : List NewPage) (n : ℕ) → is_map pairs ≡ true → length pairs ≤ most_pairs → tree ≡ filled pairs → need ≡ min (owned_under tree.root) (2 ^ 64 - 1) → given ≡ numbers_from 2 need
    → IsTreeMade given tree.height tree.root pages n → IsTreeMade (numbers_from 2 (pages_for pairs)) (filled pairs).height (filled pairs).root pages n
tree_made pairs need tree given pages n map few is exact given_is made =
    let given_all = given_is ∙ ap (λ (k : ℕ). numbers_from 2 k) (need_is pairs need tree map few is exact) in
    subst (λ (l : List ℕ). IsTreeMade l (filled pairs).height (filled pairs).root pages n) given_all (subst (λ (s : RootState). IsTreeMade given s.height s.root pages n) is made)

pub pages_numbered : (pairs : List Pair) (pages : List NewPage) (n : ℕ) → IsTreeMade (numbers_from 2 (pages_for pairs)) (filled pairs).height (filled pairs).root pages n → numbers pages ≡ numbers_from 2 (pages_for pairs)
pages_numbered pairs pages n made = made_numbers (numbers_from 2 (pages_for pairs)) (filled pairs).height (filled pairs).root pages n (so_many 2 (pages_for pairs)) made

pub pages_counted : (pairs : List Pair) (pages : List NewPage) (n : ℕ) → IsTreeMade (numbers_from 2 (pages_for pairs)) (filled pairs).height (filled pairs).root pages n → length pages ≡ pages_for pairs
pages_counted pairs pages n made = sym (numbers_length pages) ∙ ap (λ (l : List ℕ). length l) (pages_numbered pairs pages n made) ∙ so_many 2 (pages_for pairs)

abbrev slot_of_parts : ℕ → ℕ → ℕ → ℕ → Banner → Slot
slot_of_parts count tree height keys banner = record { number = 0; seal = 1; root = record { pages = count; tree = tree; height = height; keys = keys; banner = banner } }

pub slot_made : (count tree height keys : ℕ) (banner : Banner) (pairs : List Pair) → height ≡ (filled pairs).height → keys ≡ length pairs → slot_of_parts count tree height keys banner ≡ filled_slot count banner pairs tree
slot_made count tree height keys banner pairs h k = ap (λ (x : ℕ). slot_of_parts count tree x keys banner) h ∙ ap (λ (x : ℕ). slot_of_parts count tree (filled pairs).height x banner) k

-- a tree that names no page is none
not_a_page : (count : ℕ) (tree : Tree) → pages_of tree ≡ [] → IsRootInside count (Some tree)
not_a_page count (page m) none = absurd (cc none)
not_a_page count (leaf pairs) none = tt
not_a_page count (branch first others) none = tt

put_again : (f g : ℕ → List ℕ) (count : ℕ) (pages : List NewPage) → ((n : ℕ) → 2 ≤ n → g n ≡ f n) → AreTreePages count pages → ArePut f pages → ArePut g pages
put_again f g count [] same inside put = tt
put_again f g count (p ∷ pages) same inside put = (same p.number inside.0.0 ∙ put.0, put_again f g count pages same inside.1 put.1)

empty_content : (slot : Slot) (bytes : ℕ → List ℕ) → IsTrue (is_tree_version slot.root.banner.version) → slot.root.height ≡ 0 → slot.root.tree ≡ 0 → slot.root.keys ≡ 0 → content_under slot bytes ≡ Some nothing_found
unfolding content_under tree_found
empty_content slot bytes version height root keys = tree_as slot.root.banner.version slot bytes version ∙ rw (height, root, keys) refl

tree_of_content : (slot : Slot) (bytes : ℕ → List ℕ) (found : Found) → IsTrue (is_tree_version slot.root.banner.version) → content_under slot bytes ≡ Some found → tree_found slot bytes ≡ Some found
unfolding content_under
tree_of_content slot bytes found version is = sym (tree_as slot.root.banner.version slot bytes version) ∙ is

-- ---- what stands under the slot

-- Under a slot stand these pairs, and as many pages as new ones.
record Stands (slot : Slot) (bytes : ℕ → List ℕ) (pairs : List Pair) (pages : List NewPage) : Type 0 where
  pub found : Found
  pub content : content_under slot bytes ≡ Some found
  pub pairs_are : found.pairs ≡ pairs
  pub as_many : length found.pages ≡ length pages

module _ (count : ℕ) (banner : Banner) (pairs : List Pair) (pages : List NewPage) (n : ℕ) (old bytes : ℕ → List ℕ) (map : is_map pairs ≡ true) (few : length pairs ≤ most_pairs) (version : IsTrue (is_tree_version banner.version)) (most : count ≤ 65536) (fits : pages_for pairs + 2 ≤ count)
    (same : (m : ℕ) → 2 ≤ m → bytes m ≡ patched pages old m) where
  abbrev slot : Slot
  slot = filled_slot count banner pairs n

  abbrev given : List ℕ
  given = numbers_from 2 (pages_for pairs)

  abbrev bounds : Bounds
  bounds = record { pages = count; seal = 1 }

  abbrev before : OldPages
  before = old_of bytes bounds

  stands_none : (filled pairs).root ≡ None → IsTreeMade given (filled pairs).height None pages n → Stands slot bytes pairs pages
  stands_none none made =
      let flat : (filled pairs).height ≡ 0 = subst (λ (o : Option Tree). IsValidRoot before o (filled pairs).height) none (filled_valid before pairs map) in
      let empty : [] ≡ pairs = sym (ap (λ (o : Option Tree). root_pairs before o) none) ∙ filled_pairs before pairs map in
      record {
        found = nothing_found;
        content = empty_content slot bytes version flat made.1 (ap (λ (l : List Pair). length l) (sym empty));
        pairs_are = empty;
        as_many = ap (λ (l : List NewPage). length l) (sym made.0);
      }

  module _ (tree : Tree) (some : (filled pairs).root ≡ Some tree) (made : IsTreeMade given (filled pairs).height (Some tree) pages n) where
    valid : IsValidRoot before (Some tree) (filled pairs).height
    valid = subst (λ (o : Option Tree). IsValidRoot before o (filled pairs).height) some (filled_valid before pairs map)

    abbrev level : ℕ
    level = valid.0

    up : (filled pairs).height ≡ suc level
    up = valid.1

    low : (filled pairs).height ≤ 14
    low = filled_height pairs map few

    no_page : pages_of tree ≡ []
    no_page = sym (ap left_pages some) ∙ filled_pages pairs

    used : IsWritten 1 ((filled pairs).height - 1) tree n pages × (numbers pages ≡ given)
    used = all_used given 1 ((filled pairs).height - 1) pages tree n (so_many 2 (pages_for pairs) ∙ ap owned_under some) made

    written : IsWritten 1 level tree n pages
    written = subst (λ (l : ℕ). IsWritten 1 l tree n pages) (let e : (filled pairs).height - 1 ≡ level = omega (arith, up) in e) used.0

    once : (m : ℕ) → times m (numbers pages) ≤ 1
    once m = subst (λ (l : List ℕ). times m l ≤ 1) (sym used.1) (numbered_once m 2 (pages_for pairs))

    inside : AreTreePages count pages
    inside = tree_pages_inside count pages (pages_inside count pages 2 (pages_for pairs) used.1 (omega arith) (omega (arith, fits)))

    later : IsLater bounds 1
    later = record { pages = omega (arith, most); first = omega arith; later = omega arith; last = omega arith }

    finds : FindsTree bytes bytes bounds 1 level tree [] None n pages
    finds = found_tree tree bytes bytes bounds 1 level [] None n pages later (omega (arith, up, low)) valid.2 written (put_again (patched pages old) bytes count pages same inside (pages_are_put pages old once)) inside (subst (λ (l : List ℕ). AreKept bytes bytes bounds l) (sym no_page) tt)

    root_at : IsTreePage count n
    root_at = root_inside count given 1 ((filled pairs).height - 1) pages tree n (not_a_page count tree no_page) (all_numbers count 2 (pages_for pairs) (omega arith) (omega (arith, fits))) made

    pairs_same : pairs_of before tree ≡ pairs
    pairs_same = sym (ap (λ (o : Option Tree). root_pairs before o) some) ∙ filled_pairs before pairs map

    reaches_none : (m : ℕ) → times m (reached bytes bounds tree) ≡ 0
    reaches_none m = ap (λ (l : List ℕ). times m (all_under bytes bounds l)) no_page

    holds : HoldsTree bytes bytes bounds slot tree pages
    holds = holds_tree slot tree bytes bytes bounds level pages version refl up (omega (arith, up, low)) root_at (ap (λ (l : List Pair). length l) (sym pairs_same)) finds (λ m. let one = once m in let none = reaches_none m in omega (arith, one, none))

    stands_some : Stands slot bytes pairs pages
    stands_some = record {
      found = holds.found;
      content = holds.content;
      pairs_are = holds.pairs ∙ pairs_same;
      as_many = same_length holds.found.pages (numbers pages) (λ m. let is = holds.reaches m in let none = reaches_none m in omega (arith, is, none)) ∙ numbers_length pages;
    }

  stands : IsTreeMade given (filled pairs).height (filled pairs).root pages n → Stands slot bytes pairs pages
  stands made = go (filled pairs).root refl made
    where
      go : (root : Option Tree) → (filled pairs).root ≡ root → IsTreeMade given (filled pairs).height root pages n → Stands slot bytes pairs pages
      go None is made = stands_none is made
      go (Some tree) is made = stands_some tree is made

-- ---- the image

module _ (count free : ℕ) (banner : Banner) (pairs : List Pair) (image : FilledImage) (old new : Image) (map : is_map pairs ≡ true) (few : length pairs ≤ most_pairs) (version : IsTrue (is_tree_version banner.version)) (least : 16 ≤ count) (most : count ≤ 65536)
    (sectors : 8 * count ≤ length old) (made : IsImageOf count banner pairs image) (free_is : free + pages_for pairs + 2 ≡ count) (done : IsFirstWritten image.pages.items image.root old new) where
  abbrev pages : List NewPage
  pages = image.pages.items

  abbrev top : Slot
  top = filled_slot count banner pairs image.slot.root.tree

  are : numbers pages ≡ numbers_from 2 (pages_for pairs)
  are = made_numbers (numbers_from 2 (pages_for pairs)) (filled pairs).height (filled pairs).root pages image.slot.root.tree (so_many 2 (pages_for pairs)) made.tree

  size : length done.patched ≡ length old
  size = done.patches.outside.size ∙ done.clears.size

  at_top : IsSlotPage (length done.patched) top image.root
  at_top = subst (λ (s : Slot). IsSlotPage (length done.patched) s image.root) made.slot_is (made.page (length done.patched) (omega (arith, sectors, size)))

  switch : IsSwitched top done.patched new
  switch = switched top image.root done.patched new at_top done.switches

  out : is_among 1 (numbers pages) ≡ false
  out = ap (is_among 1) are ∙ before_first 1 2 (pages_for pairs) (omega arith)

  now : current new ≡ Some top
  now = cleared_current top (replicate 4096 0) old done.cleared done.patched new pages refl refl done.clears out done.patches switch

  greatest : greatest_seal new 16 ≡ 1
  greatest = cleared_greatest top (replicate 4096 0) old done.cleared done.patched new pages refl refl refl done.clears out done.patches switch

  bytes_are : (m : ℕ) → 2 ≤ m → page_of new m ≡ patched pages (page_of done.cleared) m
  bytes_are m second = page_of-same new done.patched m (λ k low high. switch.others k (inr (omega (arith, low, second)))) ∙ done.patches.bytes m

  all : Stands top (page_of new) pairs pages
  all = stands count banner pairs pages image.slot.root.tree (page_of done.cleared) (page_of new) map few version most (omega (arith, free_is)) bytes_are made.tree

  tree_is : tree_found top (page_of new) ≡ Some all.found
  tree_is = tree_of_content top (page_of new) all.found version all.content

  under : found_under top new ≡ all.found
  under = ap or_nothing tree_is

  as_many : length all.found.pages ≡ pages_for pairs
  as_many = all.as_many ∙ sym (numbers_length pages) ∙ ap (λ (l : List ℕ). length l) are ∙ so_many 2 (pages_for pairs)

  pairs_under : (found_under top new).pairs ≡ pairs
  pairs_under = ap (λ (f : Found). f.pairs) under ∙ all.pairs_are

  abbrev some_found : Found → Option Found
  some_found f = Some f

  pub has_filled : HasFilled count banner pairs free new
  has_filled = record {
    content = ap pairs_and_banner (content-of new top all.found now all.content) ∙ ap (λ (l : List Pair). Some (l, banner)) all.pairs_are;
    first = record { slot = top; current_is = now; number = refl; seal = refl; greatest = greatest; size = refl };
    filled_is = record {
      levels = ap (λ (l : List Pair). (filled l).height) (sym pairs_under);
      pages = ap (λ (f : Found). length f.pages) under ∙ as_many ∙ ap (λ (l : List Pair). owned_under (filled l).root) (sym pairs_under);
    };
    free_is =
        let left = all_pages top new (omega (arith, least)) (tree_is ∙ ap some_found (sym under)) in
        let many : length (found_under top new).pages ≡ pages_for pairs = ap (λ (f : Found). length f.pages) under ∙ as_many in
        omega (arith, left, many, free_is);
  }
