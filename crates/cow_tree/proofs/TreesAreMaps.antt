-- The pairs of a tree rise by their keys, and keys and values have their sizes.
use Rattle.std.proofs.Common.{◌≡◌, ℕ, zero, suc, Bool, true, false, List, [], ◌∷◌, ◌++◌, map, Option, Some, None, refl, sym, ap, subst, ◌∙◌}
use Rattle.std.specs.Prelude.{◌&&◌, ◌==◌, not, nat_le, nat_lt, length}
use Rattle.std.specs.List.{list_all}
use Rattle.std.proofs.lemmas.List.{append-nil}
use Rattle.page_store.specs.Reading.{◌>>=◌, where_true}
use Rattle.page_store.specs.Keys.{precedes, rises, is_between}
use Rattle.page_store.specs.Pages.{Pair, Child, Place, key_of, child_key, pair_at, entries_of, leaf_of, branch_of, are_leaf}
use Rattle.page_store.specs.Batch.{is_map, is_pair}
use Rattle.page_store.specs.Content.{Found, Bounds, place_in, joined, nothing_found, low_of, high_of, fan, walk, tree_of, tree_found, are_distinct}
use Rattle.page_store.specs.declared.slot.Slot.{Slot}
use Rattle.page_store.proofs.Fields.{bind_some, test_passed}
use Rattle.tree_nodes.proofs.KeyOrder.{both_true, not_back, below_upto, between_parts}
use Rattle.tree_nodes.proofs.JoinedPairs.{AllKeys, keys_joined, keys_wider, follows}
use Rattle.tree_nodes.proofs.WalksWithinBounds.{some_is, pairs_is, walk_within}
use Rattle.cow_tree.specs.Opening.{bounds_under}
use Rattle.cow_tree.proofs.PairSizes.{leaf_pairs}
use Rattle.cow_tree.proofs.OnTheWay.{fan_above, low_is, branch_keys}

both : (a b : Bool) → a ≡ true → b ≡ true → (a && b) ≡ true
both true b h k = k
both false b h k = absurd (cc h)

-- not below a key
abbrev from : List ℕ → List ℕ → Bool
from key k = not (precedes k key)

not_is : (b : Bool) → not b ≡ true → b ≡ false
not_is true h = absurd (cc h)
not_is false h = refl

-- pairs below a key, and others from it on
joined_rises : (key : List ℕ) (xs ys : List Pair) → rises (map key_of xs) ≡ true → rises (map key_of ys) ≡ true → AllKeys (follows key) xs → AllKeys (from key) ys → rises (map key_of (xs ++ ys)) ≡ true
joined_rises key [] ys rx ry below above = ry
joined_rises key (x ∷ []) [] rx ry below above = refl
joined_rises key (x ∷ []) (y ∷ ys) rx ry below above = both (precedes x.0 y.0) (rises (map key_of (y ∷ ys))) (below_upto x.0 key y.0 below.0 (not_is (precedes y.0 key) above.0)) ry
joined_rises key (x ∷ z ∷ xs) ys rx ry below above =
    let b = both_true (precedes x.0 z.0) (rises (map key_of (z ∷ xs))) rx in
    both (precedes x.0 z.0) (rises (map key_of ((z ∷ xs) ++ ys))) b.0 (joined_rises key (z ∷ xs) ys b.1 ry below.1 above)

joined_pairs : (xs ys : List Pair) → list_all is_pair xs ≡ true → list_all is_pair ys ≡ true → list_all is_pair (xs ++ ys) ≡ true
joined_pairs [] ys h k = k
joined_pairs (x ∷ xs) ys h k = let b = both_true (is_pair x) (list_all is_pair xs) h in both (is_pair x) (list_all is_pair (xs ++ ys)) b.0 (joined_pairs xs ys b.1 k)

joined_map : (key : List ℕ) (xs ys : List Pair) → is_map xs ≡ true → is_map ys ≡ true → AllKeys (follows key) xs → AllKeys (from key) ys → is_map (xs ++ ys) ≡ true
joined_map key xs ys mx my below above =
    let bx = both_true (rises (map key_of xs)) (list_all is_pair xs) mx in
    let by = both_true (rises (map key_of ys)) (list_all is_pair ys) my in
    both (rises (map key_of (xs ++ ys))) (list_all is_pair (xs ++ ys)) (joined_rises key xs ys bx.0 by.0 below above) (joined_pairs xs ys bx.1 by.1)

from_below : (key k : List ℕ) → precedes key k ≡ true → from key k ≡ true
from_below key k h = ap not (not_back key k h)

module _ (a : ℕ → List ℕ) (bounds : Bounds) (level : ℕ) (are_maps : (page : ℕ) (low : List ℕ) (high : Option (List ℕ)) (found : Found) → walk a bounds level page low high ≡ Some found → is_map found.pairs ≡ true) where
  -- the pairs under children from one on that isn't the first
  from_next : (earlier : List ℕ) (next : Child) (children : List Child) (low : List ℕ) (high : Option (List ℕ)) (under : Found) → precedes earlier next.key ≡ true → rises (map child_key (next ∷ children)) ≡ true → fan (walk a bounds level) low high (next ∷ children) ≡ Some under
      → AllKeys (from next.key) under.pairs
  from_next earlier next children low high under later r e =
      let f = bind_some (walk a bounds level next.page (low_of low next.key) (high_of children high)) (λ here. fan (walk a bounds level) low high children >>= λ others. Some (joined here others)) under e in
      let g = bind_some (fan (walk a bounds level) low high children) (λ others. Some (joined f.0 others)) under f.2 in
      let within = walk_within a bounds level next.page (low_of low next.key) (high_of children high) f.0 f.1 in
      let lo = low_is low earlier next.key later in
      subst (λ (x : Found). AllKeys (from next.key) x.pairs) (some_is (joined f.0 g.0) under g.2)
      (keys_joined (from next.key) f.0.pairs g.0.pairs
      (keys_wider (is_between (low_of low next.key) (high_of children high)) (from next.key) (λ k w. ap not (subst (λ (l : List ℕ). precedes k l ≡ false) lo (between_parts (low_of low next.key) (high_of children high) k w).0)) f.0.pairs within)
      (keys_wider (precedes next.key) (from next.key) (λ k h. from_below next.key k h) g.0.pairs (fan_above a bounds level children next.key low high g.0 r g.1)))

  fan_map : (children : List Child) (low : List ℕ) (high : Option (List ℕ)) (under : Found) → rises (map child_key children) ≡ true → fan (walk a bounds level) low high children ≡ Some under → is_map under.pairs ≡ true
  fan_map [] low high under r e = ap (λ (x : Found). is_map x.pairs) (sym (some_is nothing_found under e))
  fan_map (child ∷ []) low high under r e =
      let f = bind_some (walk a bounds level child.page (low_of low child.key) high) (λ here. Some nothing_found >>= λ others. Some (joined here others)) under e in
      let pairs : f.0.pairs ++ [] ≡ under.pairs = ap (λ (x : Found). x.pairs) (some_is (joined f.0 nothing_found) under f.2) in
      ap is_map (sym pairs ∙ append-nil f.0.pairs) ∙ are_maps child.page (low_of low child.key) high f.0 f.1
  fan_map (child ∷ next ∷ children) low high under r e =
      let b = both_true (precedes child.key next.key) (rises (next.key ∷ map child_key children)) r in
      let f = bind_some (walk a bounds level child.page (low_of low child.key) (Some next.key)) (λ here. fan (walk a bounds level) low high (next ∷ children) >>= λ others. Some (joined here others)) under e in
      let g = bind_some (fan (walk a bounds level) low high (next ∷ children)) (λ others. Some (joined f.0 others)) under f.2 in
      let pairs : f.0.pairs ++ g.0.pairs ≡ under.pairs = ap (λ (x : Found). x.pairs) (some_is (joined f.0 g.0) under g.2) in
      let within = walk_within a bounds level child.page (low_of low child.key) (Some next.key) f.0 f.1 in
      let below = keys_wider (is_between (low_of low child.key) (Some next.key)) (follows next.key) (λ k h. (between_parts (low_of low child.key) (Some next.key) k h).1) f.0.pairs within in
      ap is_map (sym pairs)
      ∙ joined_map next.key f.0.pairs g.0.pairs (are_maps child.page (low_of low child.key) (Some next.key) f.0 f.1) (fan_map (next ∷ children) low high g.0 b.1 g.1) below (from_next child.key next children low high g.0 b.0 b.1 g.1)

pub leaf_map : (place : Place) (low : List ℕ) (high : Option (List ℕ)) (bytes : List ℕ) (pairs : List Pair) → leaf_of place low high bytes ≡ Some pairs → is_map pairs ≡ true
unfolding leaf_of
leaf_map place low high bytes pairs e =
    let f = bind_some (entries_of pair_at place bytes) (λ ps. where_true (are_leaf low high ps) (Some ps)) pairs e in
    let t = test_passed (are_leaf low high f.0) (Some f.0) pairs f.2 in
    let b = both_true (rises (map key_of f.0)) (list_all (is_between low high) (map key_of f.0)) t.0 in
    both (rises (map key_of pairs)) (list_all is_pair pairs) (subst (λ (l : List Pair). rises (map key_of l) ≡ true) (pairs_is f.0 pairs t.1) b.0) (leaf_pairs place low high bytes pairs e)

pub walk_map : (a : ℕ → List ℕ) (bounds : Bounds) (level page : ℕ) (low : List ℕ) (high : Option (List ℕ)) (found : Found) → walk a bounds level page low high ≡ Some found → is_map found.pairs ≡ true
walk_map a bounds zero page low high found e =
    let f = bind_some (leaf_of (place_in bounds 0 page) low high (a page)) (λ pairs. Some (record { pages = page ∷ []; pairs = pairs })) found e in
    ap (λ (x : Found). is_map x.pairs) (sym (some_is _ found f.2)) ∙ leaf_map (place_in bounds 0 page) low high (a page) f.0 f.1
walk_map a bounds (suc level) page low high found e =
    let f = bind_some (branch_of (place_in bounds (suc level) page) low high (a page)) (λ children. fan (walk a bounds level) low high children >>= λ under. Some (record { pages = page ∷ under.pages; pairs = under.pairs })) found e in
    let g = bind_some (fan (walk a bounds level) low high f.0) (λ under. Some (record { pages = page ∷ under.pages; pairs = under.pairs })) found f.2 in
    ap (λ (x : Found). is_map x.pairs) (sym (some_is _ found g.2))
    ∙ fan_map a bounds level (λ p lo hi x h. walk_map a bounds level p lo hi x h) f.0 low high g.0 (branch_keys (place_in bounds (suc level) page) low high (a page) f.0 f.1).1 g.1

pub tree_map : (a : ℕ → List ℕ) (bounds : Bounds) (height page : ℕ) (found : Found) → tree_of a bounds height page ≡ Some found → is_map found.pairs ≡ true
tree_map a bounds zero page found e = let t = test_passed (page == 0) (Some nothing_found) found e in ap (λ (x : Found). is_map x.pairs) (sym (some_is nothing_found found t.1))
tree_map a bounds (suc level) page found e =
    let t = test_passed (nat_le level 15 && (nat_le 2 page && nat_lt page bounds.pages)) (walk a bounds level page [] None) found e in
    walk_map a bounds level page [] None found t.1

pub found_map : (slot : Slot) (a : ℕ → List ℕ) (found : Found) → tree_found slot a ≡ Some found → is_map found.pairs ≡ true
unfolding tree_found
found_map slot a found e =
    let f = bind_some (tree_of a (bounds_under slot) slot.root.height slot.root.tree) (λ x. where_true (are_distinct x.pages && (length x.pairs == slot.root.keys)) (Some x)) found e in
    let t = test_passed (are_distinct f.0.pages && (length f.0.pairs == slot.root.keys)) (Some f.0) found f.2 in
    ap (λ (x : Found). is_map x.pairs) (sym (some_is f.0 found t.1)) ∙ tree_map a (bounds_under slot) slot.root.height slot.root.tree f.0 f.1
