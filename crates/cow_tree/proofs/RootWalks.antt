-- A tree, from its root on.
use Rattle.std.proofs.Common.{◌≡◌, ℕ, zero, suc, ◌-◌, ◌<◌, List, [], Option, Some, None, sym, ap, subst, ◌∙◌, arith}
use Rattle.std.specs.Prelude.{◌&&◌, ◌==◌, nat_le, nat_lt}
use Rattle.page_store.specs.Pages.{Pair}
use Rattle.page_store.specs.Batch.{value_at, pair_after}
use Rattle.page_store.specs.Content.{Found, Bounds, nothing_found, walk, tree_of, tree_found}
use Rattle.page_store.specs.declared.slot.Slot.{Slot}
use Rattle.page_store.proofs.Fields.{bind_some, test_passed}
use Rattle.cow_tree.specs.Opening.{bounds_under}
use Rattle.page_alloc.specs.LedgerState.{LedgerState}
use Rattle.page_store.specs.Sectors.{Image, page_of}
use Rattle.cow_tree.specs.PinnedTrees.{bounds_at, tree_at, tree_under}
use Rattle.cow_tree.specs.TreeState.{IsThere, found_under}
use Rattle.cow_tree.specs.declared.tree_root.TreeRoot.{TreeRoot}

abbrev some : Found → Option Found
some x = Some x

some_is : (x y : Found) → some x ≡ some y → x ≡ y
some_is x y e = cc

pub found_tree : (slot : Slot) (a : ℕ → List ℕ) (found : Found) → tree_found slot a ≡ Some found → tree_of a (bounds_under slot) slot.root.height slot.root.tree ≡ Some found
unfolding tree_found
found_tree slot a found e =
    let f = bind_some (tree_of a (bounds_under slot) slot.root.height slot.root.tree) _ found e in
    let t = test_passed _ (Some f.0) found f.2 in
    f.1 ∙ ap (λ (x : Found). some x) (some_is f.0 found t.1)

from_root : (a : ℕ → List ℕ) (bounds : Bounds) (height page : ℕ) (found : Found) → 0 < height → tree_of a bounds height page ≡ Some found → walk a bounds (height - 1) page [] None ≡ Some found
from_root a bounds zero page found some e = absurd (omega (arith, some))
from_root a bounds (suc level) page found some e =
    let t = test_passed (nat_le level 15 && (nat_le 2 page && nat_lt page bounds.pages)) (walk a bounds level page [] None) found e in
    let less : level ≡ suc level - 1 = omega arith in
    subst (λ (n : ℕ). walk a bounds n page [] None ≡ Some found) less t.1

no_root : (a : ℕ → List ℕ) (bounds : Bounds) (page : ℕ) (found : Found) → tree_of a bounds 0 page ≡ Some found → found ≡ nothing_found
no_root a bounds page found e = let t = test_passed (page == 0) (Some nothing_found) found e in sym (some_is nothing_found found t.1)

pub root_walk : (slot : Slot) (a : ℕ → List ℕ) (found : Found) → 0 < slot.root.height → tree_found slot a ≡ Some found → walk a (bounds_under slot) (slot.root.height - 1) slot.root.tree [] None ≡ Some found
root_walk slot a found some e = from_root a (bounds_under slot) slot.root.height slot.root.tree found some (found_tree slot a found e)

pub nothing_there : (slot : Slot) (a : ℕ → List ℕ) (found : Found) → slot.root.height ≡ 0 → tree_found slot a ≡ Some found → found ≡ nothing_found
nothing_there slot a found none e = no_root a (bounds_under slot) slot.root.tree found (subst (λ (n : ℕ). tree_of a (bounds_under slot) n slot.root.tree ≡ Some found) none (found_tree slot a found e))

-- ---- the tree at a root

pub walk_at : (tree : TreeRoot) (a : ℕ → List ℕ) (found : Found) → 0 < tree.height → tree_at tree a ≡ Some found → walk a (bounds_at tree) (tree.height - 1) tree.tree [] None ≡ Some found
walk_at tree a found some e = from_root a (bounds_at tree) tree.height tree.tree found some e

no_pairs : (tree : TreeRoot) (a : ℕ → List ℕ) (found : Found) → tree.height ≡ 0 → tree_at tree a ≡ Some found → found.pairs ≡ []
no_pairs tree a found none e = ap (λ (x : Found). x.pairs) (no_root a (bounds_at tree) tree.tree found (subst (λ (n : ℕ). tree_of a (bounds_at tree) n tree.tree ≡ Some found) none e))

pub no_value : (tree : TreeRoot) (a : ℕ → List ℕ) (found : Found) (key : List ℕ) → tree.height ≡ 0 → tree_at tree a ≡ Some found → None ≡ value_at found.pairs key
no_value tree a found key none e = ap (λ (l : List Pair). value_at l key) (sym (no_pairs tree a found none e))

pub no_pair_after : (tree : TreeRoot) (a : ℕ → List ℕ) (found : Found) (key : List ℕ) → tree.height ≡ 0 → tree_at tree a ≡ Some found → None ≡ pair_after found.pairs key
no_pair_after tree a found key none e = ap (λ (l : List Pair). pair_after l key) (sym (no_pairs tree a found none e))

-- the tree under a slot stands where the slot says
pub current_there : (slot : Slot) (image : Image) (ledger : LedgerState) (tree : TreeRoot) → tree ≡ tree_under slot → IsThere image slot ledger → tree_at tree (page_of image) ≡ Some (found_under slot image)
current_there slot image ledger tree is there = ap (λ (t : TreeRoot). tree_at t (page_of image)) is ∙ found_tree slot (page_of image) (found_under slot image) there.found_is

-- the tree under a slot, where the slot's tree stands
pub found_there : (slot : Slot) (a : ℕ → List ℕ) (found : Found) (tree : TreeRoot) → tree ≡ tree_under slot → tree_found slot a ≡ Some found → tree_at tree a ≡ Some found
found_there slot a found tree is e = ap (λ (t : TreeRoot). tree_at t a) is ∙ found_tree slot a found e
