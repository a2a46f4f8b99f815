-- How many entries fit into a part of a page.
use Rattle.std.proofs.Common.{◌≡◌, ℕ, zero, suc, ◌+◌, ◌-◌, ◌≤◌, ◌<◌, Bool, true, false, List, [], ◌∷◌, length, take, drop, remove, get_or, refl, sym, ap, ◌∙◌, arith, rules}
use Rattle.std.specs.Prelude.{nat_le, ◌==◌, Vec, Box, if◌then◌else◌}
use Rattle.std.specs.declared.alloc.Global.{Global}
use Rattle.std.proofs.lemmas.Bool.{leb-true, le-leb, eqb-true}
use Rattle.page_store.specs.Pages.{Pair}
use Rattle.page_store.specs.Flat.{entry_size}
use Rattle.page_store.specs.Encoding.{fitting}
use Rattle.tree_nodes.specs.Tree.{Tree, Others, leaf, branch, leaf_bytes, other_bytes}
use Rattle.tree_nodes.specs.Splits.{fitting_others, leaf_place, branch_place}
use Rattle.tree_nodes.specs.Put.{one, two, leaves, split_leaf, branches, split_branch}
use Rattle.tree_nodes.specs.NodeView.{tree_of, others_view}
use Rattle.tree_nodes.specs.declared.node.Node.{Node, Leaf, Branch, the_lemmas}
use Rattle.tree_nodes.proofs.NodesAsTrees.{Children, tree_branch}
use Rattle.tree_nodes.proofs.SplitPlaces.{taken_view, dropped_view}

-- ---- pairs

pub all_fit : (room : ℕ) (pairs : List Pair) → fitting room pairs ≡ length pairs → leaf_bytes pairs ≤ room
all_fit room [] e = omega arith
all_fit room (p ∷ ps) e = go (nat_le (entry_size p) room) refl e (λ h. all_fit (room - entry_size p) ps h)
  where
    go : (b : Bool) → nat_le (entry_size p) room ≡ b → (if b then suc (fitting (room - entry_size p) ps) else 0) ≡ suc (length ps) → (fitting (room - entry_size p) ps ≡ length ps → leaf_bytes ps ≤ room - entry_size p) → leaf_bytes (p ∷ ps) ≤ room
    go true is e more = omega (arith, leb-true (entry_size p) room is, more (omega (arith, e)))
    go false is e more = absurd (omega (arith, e))

pub fit_all : (room : ℕ) (pairs : List Pair) → leaf_bytes pairs ≤ room → fitting room pairs ≡ length pairs
fit_all room [] h = refl
fit_all room (p ∷ ps) h = rw (le-leb (entry_size p) room (omega (arith, h))) (ap suc (fit_all (room - entry_size p) ps (omega (arith, h))))

-- ---- children

pub all_others_fit : (room : ℕ) (cs : Children) → fitting_others room (others_view cs) ≡ length cs → other_bytes (others_view cs) ≤ room
all_others_fit room [] e = omega arith
all_others_fit room (c ∷ cs) e = go (nat_le (6 + length c.0) room) refl e (λ h. all_others_fit (room - (6 + length c.0)) cs h)
  where
    go : (b : Bool) → nat_le (6 + length c.0) room ≡ b → (if b then suc (fitting_others (room - (6 + length c.0)) (others_view cs)) else 0) ≡ suc (length cs)
        → (fitting_others (room - (6 + length c.0)) (others_view cs) ≡ length cs → other_bytes (others_view cs) ≤ room - (6 + length c.0)) → other_bytes (others_view (c ∷ cs)) ≤ room
    go true is e more = omega (arith, leb-true (6 + length c.0) room is, more (omega (arith, e)))
    go false is e more = absurd (omega (arith, e))

pub fit_all_others : (room : ℕ) (cs : Children) → other_bytes (others_view cs) ≤ room → fitting_others room (others_view cs) ≡ length cs
fit_all_others room [] h = refl
fit_all_others room (c ∷ cs) h = rw (le-leb (6 + length c.0) room (omega (arith, h))) (ap suc (fit_all_others (room - (6 + length c.0)) cs (omega (arith, h))))

-- ---- what `is_empty` answers

pub is_none : (b : Bool) (n m : ℕ) → b ≡ (n == 0) → b ≡ true → n ≡ m → m ≡ 0
is_none b n m e t s = sym s ∙ eqb-true n 0 (sym e ∙ t)

pub is_some : (b : Bool) (n m : ℕ) → b ≡ (n == 0) → b ≡ false → n ≡ m → 0 < m
is_some b zero m e f s = absurd (cc (e, f))
is_some b (suc n) m e f s = omega (arith, s)

-- ---- a leaf and its parts

pub tree_leaf : (v : Vec Pair Global) → tree_of (Leaf v) ≡ leaf v.items
tree_leaf v = search (rules, the_lemmas)

pub leaf_whole : (v : Vec Pair Global) → fitting 4072 v.items ≡ length v.items → one (tree_of (Leaf v)) ≡ split_leaf v.items
leaf_whole v e = rw (le-leb (leaf_bytes v.items) 4072 (all_fit 4072 v.items e)) (ap one (tree_leaf v))

large : (room bytes : ℕ) → (bytes ≤ room → ⊥) → nat_le bytes room ≡ false
large room bytes n = go (nat_le bytes room) refl
  where
    go : (b : Bool) → nat_le bytes room ≡ b → b ≡ false
    go true is = absurd (n (leb-true bytes room is))
    go false is = refl

leaf_parts : (items front back : List Pair) → (fitting 4072 items ≡ length items → ⊥) → front ≡ take (leaf_place items) items → back ≡ drop (leaf_place items) items → split_leaf items ≡ leaves front back
leaf_parts items front back n f b =
    rw (large 4072 (leaf_bytes items) (λ h. n (fit_all 4072 items h)), f, b) refl

leaves_none : (front back : List Pair) → length back ≡ 0 → leaves front back ≡ one (leaf front)
leaves_none front [] e = refl
leaves_none front (p ∷ ps) e = absurd (omega (arith, e))

leaves_some : (front back : List Pair) (x : Pair) → 0 < length back → x ≡ get_or back 0 x → leaves front back ≡ two (leaf front) x.0 (leaf back)
leaves_some front [] x lt e = absurd (omega (arith, lt))
leaves_some front (p ∷ ps) x lt e = ap (λ (y : Pair). two (leaf front) y.0 (leaf (p ∷ ps))) (sym e)

pub leaf_front_alone : (items : List Pair) (front back : Vec Pair Global) → (fitting 4072 items ≡ length items → ⊥) → front.items ≡ take (leaf_place items) items → back.items ≡ drop (leaf_place items) items → length back.items ≡ 0
    → one (tree_of (Leaf front)) ≡ split_leaf items
leaf_front_alone items front back n f b e = ap one (tree_leaf front) ∙ sym (leaf_parts items front.items back.items n f b ∙ leaves_none front.items back.items e)

pub leaf_in_two : (items : List Pair) (front back : Vec Pair Global) (key : List ℕ) (x : Pair) → (fitting 4072 items ≡ length items → ⊥) → front.items ≡ take (leaf_place items) items → back.items ≡ drop (leaf_place items) items
    → 0 < length back.items → x ≡ get_or back.items 0 x → key ≡ x.0 → two (tree_of (Leaf front)) key (tree_of (Leaf back)) ≡ split_leaf items
leaf_in_two items front back key x n f b lt e k =
    rw (tree_leaf front, tree_leaf back, k) (sym (leaf_parts items front.items back.items n f b ∙ leaves_some front.items back.items x lt e))

-- ---- a branch and its parts

pub branch_whole : (first : Box Node Global) (v : Vec (List ℕ × Node) Global) → fitting_others 4066 (others_view v.items) ≡ length v.items → one (tree_of (Branch first v)) ≡ split_branch (tree_of first.value) (others_view v.items)
branch_whole first v e =
    let size = all_others_fit 4066 v.items e in
    rw (le-leb (6 + other_bytes (others_view v.items)) 4072 (omega (arith, size))) (ap one (tree_branch first v))

branch_parts : (tree : Tree) (items front back : Children) → (fitting_others 4066 (others_view items) ≡ length items → ⊥) → front ≡ take (branch_place (others_view items)) items → back ≡ drop (branch_place (others_view items)) items
    → split_branch tree (others_view items) ≡ branches tree (others_view front) (others_view back)
branch_parts tree items front back n f b =
    rw (large 4072 (6 + other_bytes (others_view items)) (λ h. n (fit_all_others 4066 items (omega (arith, h)))), f, b, taken_view (branch_place (others_view items)) items, dropped_view (branch_place (others_view items)) items) refl

branches_none : (tree : Tree) (front : Others) (back : Children) → length back ≡ 0 → branches tree front (others_view back) ≡ one (branch tree front)
branches_none tree front [] e = refl
branches_none tree front (c ∷ cs) e = absurd (omega (arith, e))

branches_some : (tree : Tree) (front : Others) (back : Children) (x : List ℕ × Node) → 0 < length back → x ≡ get_or back 0 x → branches tree front (others_view back) ≡ two (branch tree front) x.0 (branch (tree_of x.1) (others_view (remove back 0)))
branches_some tree front [] x lt e = absurd (omega (arith, lt))
branches_some tree front (c ∷ cs) x lt e = ap (λ (y : List ℕ × Node). two (branch tree front) y.0 (branch (tree_of y.1) (others_view cs))) (sym e)

pub branch_front_alone : (first : Box Node Global) (items : Children) (front back : Vec (List ℕ × Node) Global) → (fitting_others 4066 (others_view items) ≡ length items → ⊥) → front.items ≡ take (branch_place (others_view items)) items
    → back.items ≡ drop (branch_place (others_view items)) items → length back.items ≡ 0 → one (tree_of (Branch first front)) ≡ split_branch (tree_of first.value) (others_view items)
branch_front_alone first items front back n f b e =
    ap one (tree_branch first front) ∙ sym (branch_parts (tree_of first.value) items front.items back.items n f b ∙ branches_none (tree_of first.value) (others_view front.items) back.items e)

pub branch_in_two : (first next : Box Node Global) (items : Children) (front back rest : Vec (List ℕ × Node) Global) (x : List ℕ × Node) → (fitting_others 4066 (others_view items) ≡ length items → ⊥)
    → front.items ≡ take (branch_place (others_view items)) items → back.items ≡ drop (branch_place (others_view items)) items → 0 < length back.items → x ≡ get_or back.items 0 x → next.value ≡ x.1 → rest.items ≡ remove back.items 0
    → two (tree_of (Branch first front)) x.0 (tree_of (Branch next rest)) ≡ split_branch (tree_of first.value) (others_view items)
branch_in_two first next items front back rest x n f b lt e v r =
    rw (tree_branch first front, tree_branch next rest, v, r)
    (sym (branch_parts (tree_of first.value) items front.items back.items n f b ∙ branches_some (tree_of first.value) (others_view front.items) back.items x lt e))
