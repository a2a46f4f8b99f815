-- The root over the levels of a filled tree.
use Rattle.std.proofs.Common.{◌≡◌, ℕ, zero, suc, ◌+◌, ◌*◌, ◌≤◌, true, false, List, [], ◌∷◌, map, length, Option, Some, None, refl, sym, ap, subst, ◌∙◌, arith, append-nil}
use Rattle.std.specs.List.{list_all}
use Rattle.page_store.specs.Content.{Bounds}
use Rattle.page_store.specs.Keys.{precedes, rises}
use Rattle.page_store.specs.Pages.{Pair, key_of}
use Rattle.page_store.specs.Batch.{is_key, is_map, is_pair}
use Rattle.tree_nodes.specs.Tree.{Tree, Others, none, other, OldPages, row_pairs, pages_of, row_pages, row_owned_nodes, other_count}
use Rattle.tree_nodes.specs.Growth.{owned_under}
use Rattle.tree_nodes.specs.Steps.{RootState, IsValidRoot, root_pairs}
use Rattle.tree_nodes.specs.Valid.{IsValid, IsValidRow, others_high, left_pages}
use Rattle.tree_nodes.proofs.KeyOrder.{both_true}
use Rattle.tree_nodes.proofs.KeysWithinBounds.{row_lower}
use Rattle.tree_nodes.proofs.LeafSplits.{pair_key}
use Rattle.tree_nodes.proofs.RisingPairs.{Above}
use Rattle.tree_nodes.proofs.WalksWithinBounds.{not_below_nothing}
use Rattle.tree_pages.specs.Written.{AllFit}
use Rattle.tree_pages.specs.Reached.{root_reached, all_under}
use Rattle.tree_pages.proofs.PagesPut.{valid_fits}
use Rattle.tree_loading.specs.Filled.{leaves_of, branches_of, root_over, filled}
use Rattle.tree_loading.proofs.LeavesMade.{leaves_first, leaves_pairs, leaves_valid, first_leaf, behind_count, behind_owned, behind_pages}
use Rattle.tree_loading.proofs.BranchesMade.{branches_first, branches_pairs, branches_pages, branches_owned, branches_valid, first_branch, a_quarter}

-- ---- levels

-- the first node of a level has all keys up to the second's
abbrev pub StartsValid : OldPages → ℕ → Others → Type 0
StartsValid old level none = Unit {0}
StartsValid old level (other key tree others) = IsValid old level tree [] (others_high others None)

-- nodes of a level that have all keys between them
pub record IsLevel (old : OldPages) (level : ℕ) (row : Others) : Type 0 where
  pub row_is : IsValidRow old level row [] None
  pub starts : StartsValid old level row

above_nothing : (key : List ℕ) → is_key key ≡ true → precedes [] key ≡ true
above_nothing [] h = absurd (cc h)
above_nothing (b ∷ bs) h = refl

all_above : (pairs : List Pair) → is_map pairs ≡ true → Above [] pairs
all_above [] h = refl
all_above (p ∷ ps) h =
    let parts = both_true (rises (map key_of (p ∷ ps))) (list_all is_pair (p ∷ ps)) h in
    let first = (both_true (is_pair p) (list_all is_pair ps) parts.1).0 in
    rw (above_nothing p.0 (pair_key p first), parts.0) refl

pub leaf_level : (old : OldPages) (pairs : List Pair) → is_map pairs ≡ true → IsLevel old 0 (leaves_of pairs)
leaf_level old pairs h = record { row_is = leaves_valid old [] 0 pairs (all_above pairs h) (both_true (rises (map key_of pairs)) (list_all is_pair pairs) h).1; starts = start pairs h }
  where
    start : (pairs : List Pair) → is_map pairs ≡ true → StartsValid old 0 (leaves_of pairs)
    start [] h = tt
    start (p ∷ ps) h =
        let parts = both_true (rises (map key_of (p ∷ ps))) (list_all is_pair (p ∷ ps)) h in
        subst (StartsValid old 0) (sym (leaves_first p ps)) (first_leaf [] p ps (not_below_nothing p.0) parts.0 parts.1)

pub branch_level : (old : OldPages) (level : ℕ) (row : Others) → IsLevel old level row → IsLevel old (suc level) (branches_of row)
branch_level old level row h = record { row_is = branches_valid old level 0 row [] None h.row_is; starts = start row h }
  where
    start : (row : Others) → IsLevel old level row → StartsValid old (suc level) (branches_of row)
    start none h = tt
    start (other key tree others) h =
        let parts = h.row_is in
        subst (StartsValid old (suc level)) (sym (branches_first key tree others)) (first_branch old level tree others [] None h.starts (row_lower old level others key [] None parts.0 parts.4))

-- a level over two nodes or more has fewer
pub fewer : (old : OldPages) (level : ℕ) (row : Others) → IsLevel old level row → 2 ≤ other_count row → other_count (branches_of row) + 1 ≤ other_count row
fewer old level row h some = let quarter = a_quarter old level row [] None h.row_is in omega (arith, quarter, some)

-- ---- the root is valid, and has the pairs

-- a valid root, with these pairs
abbrev HasPairs : OldPages → RootState → List Pair → Type 0
HasPairs old state pairs = IsValidRoot old state.root state.height × (root_pairs old state.root ≡ pairs)

root_holds : (old : OldPages) (most level : ℕ) (row : Others) → IsLevel old level row → other_count row ≤ suc most → HasPairs old (root_over most (suc level) row) (row_pairs old row)
root_holds old most level none h few = (refl, refl)
root_holds old most level (other key tree none) h few = ((level, refl, h.starts), sym (append-nil _))
root_holds old zero level (other key tree (other next sibling others)) h few = absurd (omega (arith, few))
root_holds old (suc most) level (other key tree (other next sibling others)) h few =
    let row = other key tree (other next sibling others) in
    let less = fewer old level row h (omega arith) in
    subst (HasPairs old (root_over most (suc (suc level)) (branches_of row))) (branches_pairs old row) (root_holds old most (suc level) (branches_of row) (branch_level old level row h) (omega (arith, less, few)))

few_leaves : (pairs : List Pair) → other_count (leaves_of pairs) ≤ suc (length pairs)
few_leaves pairs = let few = behind_count 0 pairs in omega (arith, few)

filled_holds : (old : OldPages) (pairs : List Pair) → is_map pairs ≡ true → HasPairs old (filled pairs) pairs
filled_holds old pairs h = subst (HasPairs old (filled pairs)) (leaves_pairs old pairs) (root_holds old (length pairs) 0 (leaves_of pairs) (leaf_level old pairs h) (few_leaves pairs))

pub filled_valid : (old : OldPages) (pairs : List Pair) → is_map pairs ≡ true → IsValidRoot old (filled pairs).root (filled pairs).height
filled_valid old pairs h = (filled_holds old pairs h).0

pub filled_pairs : (old : OldPages) (pairs : List Pair) → is_map pairs ≡ true → root_pairs old (filled pairs).root ≡ pairs
filled_pairs old pairs h = (filled_holds old pairs h).1

-- ---- its nodes fit their pages

-- no pages at all
abbrev pub no_pages : OldPages
no_pages = record { pairs = λ n. []; stands = λ level n low high. false; opened = λ level n. None }

root_fits : (root : Option Tree) (height level : ℕ) (tree : Tree) → IsValidRoot no_pages root height → root ≡ Some tree → height ≡ suc level → AllFit level tree
root_fits root height level tree v r e =
    let valid = subst (λ (x : Option Tree). IsValidRoot no_pages x height) r v in
    let same : valid.0 ≡ level = omega (arith, valid.1, e) in
    valid_fits tree no_pages level [] None (subst (λ (n : ℕ). IsValid no_pages n tree [] None) same valid.2)

pub filled_fits : (pairs : List Pair) (level : ℕ) (tree : Tree) → is_map pairs ≡ true → (filled pairs).root ≡ Some tree → (filled pairs).height ≡ suc level → AllFit level tree
filled_fits pairs level tree h r e = root_fits (filled pairs).root (filled pairs).height level tree (filled_valid no_pages pairs h) r e

-- ---- it names no page

root_pages : (most height : ℕ) (row : Others) → row_pages row ≡ [] → left_pages (root_over most height row).root ≡ []
root_pages most height none h = refl
root_pages most height (other key tree none) h = sym (append-nil (pages_of tree)) ∙ h
root_pages zero height (other key tree (other next sibling others)) h = refl
root_pages (suc most) height (other key tree (other next sibling others)) h = let row = other key tree (other next sibling others) in root_pages most (suc height) (branches_of row) (branches_pages row ∙ h)

pub filled_pages : (pairs : List Pair) → left_pages (filled pairs).root ≡ []
filled_pages pairs = root_pages (length pairs) 1 (leaves_of pairs) (behind_pages 0 pairs)

reaches_none : (bytes : ℕ → List ℕ) (bounds : Bounds) (root : Option Tree) → left_pages root ≡ [] → root_reached bytes bounds root ≡ []
reaches_none bytes bounds None h = refl
reaches_none bytes bounds (Some tree) h = ap (all_under bytes bounds) h

pub filled_reaches : (bytes : ℕ → List ℕ) (bounds : Bounds) (pairs : List Pair) → root_reached bytes bounds (filled pairs).root ≡ []
filled_reaches bytes bounds pairs = reaches_none bytes bounds (filled pairs).root (filled_pages pairs)

-- ---- it has few levels

abbrev four_to : ℕ → ℕ
four_to zero = 1
four_to (suc n) = 4 * four_to n

root_height : (more most height level : ℕ) (row : Others) → IsLevel no_pages level row → other_count row ≤ four_to more → (root_over most height row).height ≤ height + more
root_height more most height level none h few = omega arith
root_height more most height level (other key tree none) h few = omega arith
root_height more zero height level (other key tree (other next sibling others)) h few = omega arith
root_height zero (suc most) height level (other key tree (other next sibling others)) h few = absurd (omega (arith, few))
root_height (suc more) (suc most) height level (other key tree (other next sibling others)) h few =
    let row = other key tree (other next sibling others) in
    let quarter = a_quarter no_pages level row [] None h.row_is in
    let rest = root_height more most (suc height) (suc level) (branches_of row) (branch_level no_pages level row h) (omega (arith, quarter, few)) in
    omega (arith, rest)

pub filled_height : (pairs : List Pair) → is_map pairs ≡ true → length pairs ≤ 1024 * 65536 → (filled pairs).height ≤ 14
filled_height pairs h few =
    let leaves = behind_count 0 pairs in
    root_height 13 (length pairs) 1 0 (leaves_of pairs) (leaf_level no_pages pairs h) (omega (arith, leaves, few))

-- ---- it has few nodes

root_owned : (most height level : ℕ) (row : Others) → IsLevel no_pages level row → owned_under (root_over most height row).root ≤ row_owned_nodes row + other_count row
root_owned most height level none h = omega arith
root_owned most height level (other key tree none) h = omega arith
root_owned zero height level (other key tree (other next sibling others)) h = omega arith
root_owned (suc most) height level (other key tree (other next sibling others)) h =
    let row = other key tree (other next sibling others) in
    let quarter = a_quarter no_pages level row [] None h.row_is in
    let owned = branches_owned row in
    let rest = root_owned most (suc height) (suc level) (branches_of row) (branch_level no_pages level row h) in
    omega (arith, quarter, owned, rest)

pub filled_owned : (pairs : List Pair) → is_map pairs ≡ true → owned_under (filled pairs).root ≤ 2 * length pairs
filled_owned pairs h =
    let leaves = behind_count 0 pairs in
    let owned = behind_owned 0 pairs in
    let all = root_owned (length pairs) 1 0 (leaves_of pairs) (leaf_level no_pages pairs h) in
    omega (arith, leaves, owned, all)
