-- Nodes, as trees.
use Rattle.std.proofs.Common.{◌≡◌, ◌+◌, ◌∷◌, [], ◌<◌, zero, suc, set, insert, remove, Option, Some, None, length, get_or, List, ℕ, Bool, true, false, refl, ap, arith, rules}
use Rattle.std.specs.Prelude.{Vec, Box, if◌then◌else◌}
use Rattle.std.specs.declared.alloc.Global.{Global}
use Rattle.page_store.specs.Keys.{precedes}
use Rattle.tree_nodes.specs.Tree.{Tree, Others, branch, other, none, way, row_way, place, goes_first}
use Rattle.tree_nodes.specs.Put.{Grown, one, two, put, put_row, split_branch, grown_other, others_with}
use Rattle.tree_nodes.specs.NodeView.{tree_of, others_view}
use Rattle.tree_nodes.specs.declared.node.Node.{Node, Branch, the_lemmas}
use Rattle.tree_nodes.specs.Delete.{delete, delete_row, other_left, others_less, first_left}

pub tree_branch : (first : Box Node Global) (v : Vec (List ℕ × Node) Global) → tree_of (Branch first v) ≡ branch (tree_of first.value) (others_view v.items)
tree_branch first v = search (rules, the_lemmas)

pub place_none : (key : List ℕ) (others : Others) → place key others ≡ 0 → goes_first key others ≡ true
place_none key none h = refl
place_none key (other next tree others) h = go (precedes key next) h
  where
    go : (b : Bool) → (if b then 0 else 1 + place key others) ≡ 0 → b ≡ true
    go true h = refl
    go false h = absurd (omega (arith, h))

pub place_first : (key : List ℕ) (others : Others) → goes_first key others ≡ true → place key others ≡ 0
place_first key none h = refl
place_first key (other next tree others) h = rw h refl

pub place_some : (key : List ℕ) (others : Others) (n : ℕ) → place key others ≡ suc n → goes_first key others ≡ false
place_some key none n h = absurd (omega (arith, h))
place_some key (other next tree others) n h = go (precedes key next) h
  where
    go : (b : Bool) → (if b then 0 else 1 + place key others) ≡ suc n → b ≡ false
    go true h = absurd (omega (arith, h))
    go false h = refl

abbrev pub Children : Type 0
Children = List (List ℕ × Node)

abbrev pub node_at : Children → ℕ → List ℕ × Node → Tree
node_at cs i d = tree_of (get_or cs i d).1

-- one step into a row: the way goes into its first child, or passes over it
pub row_step : (key : List ℕ) (first : List ℕ) (tree : Tree) (others : Others) (i : ℕ) → place key (other first tree others) ≡ suc i → place key others ≡ i
row_step key first tree others i h = go (precedes key first) h
  where
    go : (b : Bool) → (if b then 0 else 1 + place key others) ≡ suc i → place key others ≡ i
    go true h = absurd (omega (arith, h))
    go false h = omega (arith, h)

pub row_way_at : (cs : Children) (key : List ℕ) (i : ℕ) (d : List ℕ × Node) → place key (others_view cs) ≡ suc i → row_way key (others_view cs) ≡ way key (node_at cs i d)
row_way_at [] key i d h = absurd (omega (arith, h))
row_way_at (c ∷ cs) key zero d h = rw (place_none key (others_view cs) (row_step key c.0 (tree_of c.1) (others_view cs) 0 h)) refl
row_way_at (c ∷ cs) key (suc i) d h =
    let more = row_step key c.0 (tree_of c.1) (others_view cs) (suc i) h in
    rw (place_some key (others_view cs) i more) (row_way_at cs key i d more)

pub way_first : (key : List ℕ) (tree : Tree) (others : Others) → place key others ≡ 0 → way key (branch tree others) ≡ way key tree
way_first key tree others h = rw (place_none key others h) refl

pub way_other : (key : List ℕ) (tree : Tree) (cs : Children) (i : ℕ) (d : List ℕ × Node) → place key (others_view cs) ≡ suc i → way key (branch tree (others_view cs)) ≡ way key (node_at cs i d)
way_other key tree cs i d h = rw (place_some key (others_view cs) i h) (row_way_at cs key i d h)

-- ---- a child that has grown

pub set_one : (cs : Children) (at : ℕ) (x : List ℕ × Node) (node : Node) → at < length cs → x ≡ get_or cs at x → others_view (set cs at (x.0, node)) ≡ others_with (others_view cs) at (one (tree_of node))
set_one [] at x node lt e = absurd (omega (arith, lt))
set_one (c ∷ cs) zero x node lt e = ap (λ (y : List ℕ × Node). other y.0 (tree_of node) (others_view cs)) e
set_one (c ∷ cs) (suc at) x node lt e = ap (other c.0 (tree_of c.1)) (set_one cs at x node (omega (arith, lt)) e)

pub set_two : (cs : Children) (at : ℕ) (x : List ℕ × Node) (node : Node) (key : List ℕ) (next : Node) → at < length cs → x ≡ get_or cs at x
    → others_view (insert (set cs at (x.0, node)) (suc at) (key, next)) ≡ others_with (others_view cs) at (two (tree_of node) key (tree_of next))
set_two [] at x node key next lt e = absurd (omega (arith, lt))
set_two (c ∷ cs) zero x node key next lt e = ap (λ (y : List ℕ × Node). other y.0 (tree_of node) (other key (tree_of next) (others_view cs))) e
set_two (c ∷ cs) (suc at) x node key next lt e = ap (other c.0 (tree_of c.1)) (set_two cs at x node key next (omega (arith, lt)) e)

-- what stood at the place doesn't matter
pub with_again : (cs : Children) (at : ℕ) (x : List ℕ × Node) (node : Node) (g : Grown) → at < length cs → x ≡ get_or cs at x → others_with (others_view (set cs at (x.0, node))) at g ≡ others_with (others_view cs) at g
with_again [] at x node g lt e = absurd (omega (arith, lt))
with_again (c ∷ cs) zero x node g lt e = ap (λ (y : List ℕ × Node). grown_other y.0 g (others_view cs)) e
with_again (c ∷ cs) (suc at) x node g lt e = ap (other c.0 (tree_of c.1)) (with_again cs at x node g (omega (arith, lt)) e)

pub put_row_at : (cs : Children) (key value : List ℕ) (i : ℕ) (d : List ℕ × Node) → place key (others_view cs) ≡ suc i → put_row key value (others_view cs) ≡ others_with (others_view cs) i (put key value (node_at cs i d))
put_row_at [] key value i d h = absurd (omega (arith, h))
put_row_at (c ∷ cs) key value zero d h = rw (place_none key (others_view cs) (row_step key c.0 (tree_of c.1) (others_view cs) 0 h)) refl
put_row_at (c ∷ cs) key value (suc i) d h =
    let more = row_step key c.0 (tree_of c.1) (others_view cs) (suc i) h in
    rw (place_some key (others_view cs) i more) (ap (other c.0 (tree_of c.1)) (put_row_at cs key value i d more))

pub put_other : (key value : List ℕ) (tree : Tree) (cs : Children) (i : ℕ) (d : List ℕ × Node) → place key (others_view cs) ≡ suc i
    → put key value (branch tree (others_view cs)) ≡ split_branch tree (others_with (others_view cs) i (put key value (node_at cs i d)))
put_other key value tree cs i d h = rw (place_some key (others_view cs) i h) (ap (split_branch tree) (put_row_at cs key value i d h))

-- ---- a child of which something is left, or nothing

pub set_left : (cs : Children) (at : ℕ) (x : List ℕ × Node) (node : Node) → at < length cs → x ≡ get_or cs at x → others_view (set cs at (x.0, node)) ≡ others_less (others_view cs) at (Some (tree_of node))
set_left [] at x node lt e = absurd (omega (arith, lt))
set_left (c ∷ cs) zero x node lt e = ap (λ (y : List ℕ × Node). other y.0 (tree_of node) (others_view cs)) e
set_left (c ∷ cs) (suc at) x node lt e = ap (other c.0 (tree_of c.1)) (set_left cs at x node (omega (arith, lt)) e)

pub remove_left : (cs : Children) (at : ℕ) → at < length cs → others_view (remove cs at) ≡ others_less (others_view cs) at None
remove_left [] at lt = absurd (omega (arith, lt))
remove_left (c ∷ cs) zero lt = refl
remove_left (c ∷ cs) (suc at) lt = ap (other c.0 (tree_of c.1)) (remove_left cs at (omega (arith, lt)))

pub less_again : (cs : Children) (at : ℕ) (x : List ℕ × Node) (node : Node) (t : Option Tree) → at < length cs → x ≡ get_or cs at x → others_less (others_view (set cs at (x.0, node))) at t ≡ others_less (others_view cs) at t
less_again [] at x node t lt e = absurd (omega (arith, lt))
less_again (c ∷ cs) zero x node t lt e = ap (λ (y : List ℕ × Node). other_left y.0 t (others_view cs)) e
less_again (c ∷ cs) (suc at) x node t lt e = ap (other c.0 (tree_of c.1)) (less_again cs at x node t (omega (arith, lt)) e)

pub delete_row_at : (cs : Children) (key : List ℕ) (i : ℕ) (d : List ℕ × Node) → place key (others_view cs) ≡ suc i → delete_row key (others_view cs) ≡ others_less (others_view cs) i (delete key (node_at cs i d))
delete_row_at [] key i d h = absurd (omega (arith, h))
delete_row_at (c ∷ cs) key zero d h = rw (place_none key (others_view cs) (row_step key c.0 (tree_of c.1) (others_view cs) 0 h)) refl
delete_row_at (c ∷ cs) key (suc i) d h =
    let more = row_step key c.0 (tree_of c.1) (others_view cs) (suc i) h in
    rw (place_some key (others_view cs) i more) (ap (other c.0 (tree_of c.1)) (delete_row_at cs key i d more))

pub delete_other : (key : List ℕ) (tree : Tree) (cs : Children) (i : ℕ) (d : List ℕ × Node) → place key (others_view cs) ≡ suc i
    → delete key (branch tree (others_view cs)) ≡ Some (branch tree (others_less (others_view cs) i (delete key (node_at cs i d))))
delete_other key tree cs i d h = rw (place_some key (others_view cs) i h) (ap (λ (l : Others). Some (branch tree l)) (delete_row_at cs key i d h))

pub delete_first : (key : List ℕ) (tree : Tree) (others : Others) → place key others ≡ 0 → delete key (branch tree others) ≡ first_left (delete key tree) others
delete_first key tree others h = rw (place_none key others h) refl

-- the first child is gone, and the second becomes first
pub first_gone : (cs : Children) (x : List ℕ × Node) → 0 < length cs → x ≡ get_or cs 0 x → Some (branch (tree_of x.1) (others_view (remove cs 0))) ≡ first_left None (others_view cs)
first_gone [] x lt e = absurd (omega (arith, lt))
first_gone (c ∷ cs) x lt e = ap (λ (y : List ℕ × Node). Some (branch (tree_of y.1) (others_view cs))) e
