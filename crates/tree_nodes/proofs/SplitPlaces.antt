-- The place at which entries are parted, as the longest front that fits into so many bytes.
use Rattle.std.proofs.Common.{◌≡◌, ℕ, zero, suc, ◌+◌, ◌-◌, Bool, true, false, List, [], ◌∷◌, length, take, drop, refl, ap}
use Rattle.std.specs.Prelude.{nat_le, if◌then◌else◌}
use Rattle.page_store.specs.Pages.{Pair}
use Rattle.page_store.specs.Flat.{entry_size}
use Rattle.page_store.specs.Encoding.{fitting}
use Rattle.tree_nodes.specs.Tree.{Others, none, other}
use Rattle.tree_nodes.specs.Splits.{fitting_others, leaf_place, branch_place}
use Rattle.tree_nodes.specs.declared.splitting.TheConstants.{FRONT_OF_LEAF, FRONT_OF_BRANCH}
use Rattle.tree_nodes.specs.Put.{front_pairs, back_pairs, front_others, back_others, take_others, drop_others}
use Rattle.tree_nodes.specs.NodeView.{tree_of, others_view}
use Rattle.tree_nodes.proofs.NodesAsTrees.{Children}

-- ---- pairs

front_fits : (room : ℕ) (pairs : List Pair) → take (fitting room pairs) pairs ≡ front_pairs room pairs
front_fits room [] = refl
front_fits room (p ∷ ps) = go (nat_le (entry_size p) room) (front_fits (room - entry_size p) ps)
  where
    go : (b : Bool) → take (fitting (room - entry_size p) ps) ps ≡ front_pairs (room - entry_size p) ps
        → take (if b then suc (fitting (room - entry_size p) ps) else 0) (p ∷ ps) ≡ (if b then p ∷ front_pairs (room - entry_size p) ps else [])
    go true more = ap (λ (l : List Pair). p ∷ l) more
    go false more = refl

back_fits : (room : ℕ) (pairs : List Pair) → drop (fitting room pairs) pairs ≡ back_pairs room pairs
back_fits room [] = refl
back_fits room (p ∷ ps) = go (nat_le (entry_size p) room) (back_fits (room - entry_size p) ps)
  where
    go : (b : Bool) → drop (fitting (room - entry_size p) ps) ps ≡ back_pairs (room - entry_size p) ps
        → drop (if b then suc (fitting (room - entry_size p) ps) else 0) (p ∷ ps) ≡ (if b then back_pairs (room - entry_size p) ps else p ∷ ps)
    go true more = more
    go false more = refl

pub leaf_front : (pairs : List Pair) → take (leaf_place pairs) pairs ≡ front_pairs FRONT_OF_LEAF pairs
unfolding leaf_place
leaf_front pairs = front_fits FRONT_OF_LEAF pairs

pub leaf_back : (pairs : List Pair) → drop (leaf_place pairs) pairs ≡ back_pairs FRONT_OF_LEAF pairs
unfolding leaf_place
leaf_back pairs = back_fits FRONT_OF_LEAF pairs

-- ---- children

front_others_fit : (room : ℕ) (others : Others) → take_others (fitting_others room others) others ≡ front_others room others
front_others_fit room none = refl
front_others_fit room (other key tree others) = go (nat_le (6 + length key) room) (front_others_fit (room - (6 + length key)) others)
  where
    go : (b : Bool) → take_others (fitting_others (room - (6 + length key)) others) others ≡ front_others (room - (6 + length key)) others
        → take_others (if b then suc (fitting_others (room - (6 + length key)) others) else 0) (other key tree others) ≡ (if b then other key tree (front_others (room - (6 + length key)) others) else none)
    go true more = ap (other key tree) more
    go false more = refl

back_others_fit : (room : ℕ) (others : Others) → drop_others (fitting_others room others) others ≡ back_others room others
back_others_fit room none = refl
back_others_fit room (other key tree others) = go (nat_le (6 + length key) room) (back_others_fit (room - (6 + length key)) others)
  where
    go : (b : Bool) → drop_others (fitting_others (room - (6 + length key)) others) others ≡ back_others (room - (6 + length key)) others
        → drop_others (if b then suc (fitting_others (room - (6 + length key)) others) else 0) (other key tree others) ≡ (if b then back_others (room - (6 + length key)) others else other key tree others)
    go true more = more
    go false more = refl

pub branch_front : (others : Others) → take_others (branch_place others) others ≡ front_others FRONT_OF_BRANCH others
unfolding branch_place
branch_front others = front_others_fit FRONT_OF_BRANCH others

pub branch_back : (others : Others) → drop_others (branch_place others) others ≡ back_others FRONT_OF_BRANCH others
unfolding branch_place
branch_back others = back_others_fit FRONT_OF_BRANCH others

-- ---- nodes, as their children

pub taken_view : (n : ℕ) (cs : Children) → others_view (take n cs) ≡ take_others n (others_view cs)
taken_view zero cs = refl
taken_view (suc n) [] = refl
taken_view (suc n) (c ∷ cs) = ap (other c.0 (tree_of c.1)) (taken_view n cs)

pub dropped_view : (n : ℕ) (cs : Children) → others_view (drop n cs) ≡ drop_others n (others_view cs)
dropped_view zero cs = refl
dropped_view (suc n) [] = refl
dropped_view (suc n) (c ∷ cs) = dropped_view n cs
