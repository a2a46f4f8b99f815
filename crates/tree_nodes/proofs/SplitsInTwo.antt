-- A page that doesn't fit, split in two that do.
use Rattle.std.proofs.Common.{◌≡◌, ℕ, zero, suc, ◌+◌, ◌<◌, ◌≤◌, Bool, true, false, List, [], ◌∷◌, ◌++◌, take, drop, refl, sym, ap, subst, arith, append-nil}
use Rattle.std.specs.Prelude.{nat_le}
use Rattle.std.specs.List.{list_all}
use Rattle.std.proofs.lemmas.Bool.{le-leb, leb-true}
use Rattle.std.proofs.lemmas.List.{take-append-drop}
use Rattle.page_store.specs.Pages.{Pair}
use Rattle.page_store.specs.Batch.{is_pair}
use Rattle.tree_nodes.specs.Tree.{Tree, Others, leaf, branch, none, other, entry_room, leaf_bytes, other_bytes}
use Rattle.tree_nodes.specs.Splits.{leaf_place, branch_place}
use Rattle.tree_nodes.specs.declared.splitting.TheConstants.{FRONT_OF_LEAF, FRONT_OF_BRANCH}
use Rattle.tree_nodes.specs.Put.{one, split_leaf, split_branch, leaves, branches, take_others, drop_others}
use Rattle.tree_nodes.specs.InTwo.{others_joined, AreKeys, IsLeafInTwo, IsBranchInTwo, greatest_pair, greatest_child}
use Rattle.tree_nodes.proofs.KeyOrder.{both_true}
use Rattle.tree_nodes.proofs.RisingPairs.{all_back}
use Rattle.tree_nodes.proofs.LeafSplits.{IsOver, key_size, pair_size, bytes_joined, filled, front_small, back_large}
use Rattle.tree_nodes.proofs.BranchSplits.{KeysFit, IsSplit, is_parted}
use Rattle.tree_nodes.proofs.EditsStand.{keys_bytes}

pub leaf_stays : (pairs : List Pair) → leaf_bytes pairs ≤ entry_room → split_leaf pairs ≡ one (leaf pairs)
leaf_stays pairs fits = rw (le-leb (leaf_bytes pairs) entry_room fits) refl

pub branch_stays : (first : Tree) (others : Others) → 6 + other_bytes others ≤ entry_room → split_branch first others ≡ one (branch first others)
branch_stays first others fits = rw (le-leb (6 + other_bytes others) entry_room fits) refl

over : (bytes : ℕ) → entry_room < bytes → nat_le bytes entry_room ≡ false
over bytes large = go (nat_le bytes entry_room) refl
  where
    go : (b : Bool) → nat_le bytes entry_room ≡ b → b ≡ false
    go true is = absurd (let small = leb-true bytes entry_room is in omega (arith, large, small))
    go false is = refl

-- ---- a leaf

leaf_halves : (pairs front back : List Pair) → front ++ back ≡ pairs → list_all is_pair (front ++ back) ≡ true → leaf_bytes front ≤ FRONT_OF_LEAF → IsOver FRONT_OF_LEAF front back → entry_room < leaf_bytes (front ++ back) → leaf_bytes (front ++ back) ≤ entry_room + greatest_pair
    → IsLeafInTwo pairs (leaves front back)
leaf_halves pairs front [] all each small large over most = absurd (omega (arith, small, over, ap leaf_bytes (append-nil front)))
leaf_halves pairs front (e ∷ es) all each small large over most =
    let size = pair_size e (both_true (is_pair e) (list_all is_pair es) (all_back front (e ∷ es) each)).0 in
    record {
      front = front;
      middle = e;
      back = es;
      is = refl;
      all = all;
      filled = filled FRONT_OF_LEAF front e (omega (arith, size)) large;
      first_fits = omega (arith, small);
      second_fits = omega (arith, most, large, size, bytes_joined front (e ∷ es));
    }

pub leaf_in_two : (pairs : List Pair) → list_all is_pair pairs ≡ true → entry_room < leaf_bytes pairs → leaf_bytes pairs ≤ entry_room + greatest_pair → IsLeafInTwo pairs (split_leaf pairs)
leaf_in_two pairs each large most =
    let all = take-append-drop (leaf_place pairs) pairs in
    rw (over (leaf_bytes pairs) large)
    (leaf_halves pairs (take (leaf_place pairs) pairs) (drop (leaf_place pairs) pairs) all (subst (λ (l : List Pair). list_all is_pair l ≡ true) (sym all) each) (front_small pairs) (back_large pairs)
    (subst (λ (l : List Pair). entry_room < leaf_bytes l) (sym all) large) (subst (λ (l : List Pair). leaf_bytes l ≤ entry_room + greatest_pair) (sym all) most))

-- ---- a branch

keys_fit : (others : Others) → AreKeys others → KeysFit others
keys_fit none keys = tt
keys_fit (other key tree others) keys = ((let size = key_size key keys.0 in omega (arith, size)), keys_fit others keys.1)

parts_joined : (n : ℕ) (others : Others) → others_joined (take_others n others) (drop_others n others) ≡ others
parts_joined zero others = refl
parts_joined (suc n) none = refl
parts_joined (suc n) (other key tree others) = ap (other key tree) (parts_joined n others)

branch_halves : (first : Tree) (others front back : Others) → others_joined front back ≡ others → IsSplit FRONT_OF_BRANCH others front back → KeysFit others → entry_room < 6 + other_bytes others → 6 + other_bytes others ≤ entry_room + greatest_child
    → IsBranchInTwo first others (branches first front back)
branch_halves first others front none all c fit large most = let bytes = c.bytes in let small = c.small in absurd (omega (arith, bytes, small, large))
branch_halves first others front (other key tree rest) all c fit large most =
    let bytes = c.bytes in
    let small = c.small in
    let over = c.over in
    let back = c.fit_back fit in
    let size = back.0 in
    let few_front = keys_bytes front (c.fit_front fit) in
    let few_back = keys_bytes (other key tree rest) back in
    record {
      front = front;
      key = key;
      middle = tree;
      back = rest;
      is = refl;
      all = all;
      first_fits = omega (arith, small);
      second_fits = omega (arith, over, bytes, most);
      first_has_seven = omega (arith, few_front, over, size);
      second_has_seven = omega (arith, few_back, bytes, small, large);
    }

pub branch_in_two : (first : Tree) (others : Others) → AreKeys others → entry_room < 6 + other_bytes others → 6 + other_bytes others ≤ entry_room + greatest_child → IsBranchInTwo first others (split_branch first others)
branch_in_two first others keys large most =
    rw (over (6 + other_bytes others) large)
    (branch_halves first others (take_others (branch_place others) others) (drop_others (branch_place others) others) (parts_joined (branch_place others) others) (is_parted others) (keys_fit others keys) large most)
