-- Nodes read from pages, and trees with them.
use Rattle.std.proofs.Common.{◌≡◌, ◌++◌, ◌∷◌, [], ◌<◌, ◌-◌, zero, suc, Some, None, List, ℕ, refl, ap, arith, rules}
use Rattle.std.specs.Prelude.{Vec}
use Rattle.std.specs.declared.alloc.Global.{Global}
use Rattle.page_store.specs.Pages.{Pair, Child, leaf_of, branch_of}
use Rattle.page_store.specs.Content.{Bounds, place_in}
use Rattle.tree_nodes.specs.Tree.{Tree, Others, page, leaf, branch, other, none, place}
use Rattle.tree_nodes.specs.Delete.{others_less}
use Rattle.tree_nodes.specs.Supply.{branch_named, tree_in, path_depth, row_depth, supplied, row_supplied}
use Rattle.tree_nodes.specs.NodeView.{tree_of, others_view}
use Rattle.tree_nodes.specs.declared.node.Node.{Node, Page, Leaf, the_lemmas}
use Rattle.tree_nodes.proofs.NodesAsTrees.{place_none, place_some, row_step, node_at, Children}

-- some children, and more
abbrev pub joined_others : Others → Others → Others
joined_others none more = more
joined_others (other key tree others) more = other key tree (joined_others others more)

pub tree_page : (n : ℕ) → tree_of (Page n) ≡ page n
tree_page n = search (rules, the_lemmas)

pub tree_leaf : (v : Vec Pair Global) → tree_of (Leaf v) ≡ leaf v.items
tree_leaf v = search (rules, the_lemmas)

-- one more child that is a page
pub one_more : (cs : Children) (key : List ℕ) (n : ℕ) (more : Others) → joined_others (others_view (cs ++ (key, Page n) ∷ [])) more ≡ joined_others (others_view cs) (other key (page n) more)
one_more [] key n more = ap (λ (t : Tree). other key t more) (tree_page n)
one_more (c ∷ cs) key n more = ap (other c.0 (tree_of c.1)) (one_more cs key n more)

pub joined_none : (others : Others) → joined_others others none ≡ others
joined_none none = refl
joined_none (other key tree others) = ap (other key tree) (joined_none others)

-- ---- the level of a key's page

pub row_depth_at : (cs : Children) (key : List ℕ) (i : ℕ) (d : List ℕ × Node) → place key (others_view cs) ≡ suc i → row_depth key (others_view cs) ≡ path_depth key (node_at cs i d)
row_depth_at [] key i d h = absurd (omega (arith, h))
row_depth_at (c ∷ cs) key zero d h = rw (place_none key (others_view cs) (row_step key c.0 (tree_of c.1) (others_view cs) 0 h)) refl
row_depth_at (c ∷ cs) key (suc i) d h =
    let more = row_step key c.0 (tree_of c.1) (others_view cs) (suc i) h in
    rw (place_some key (others_view cs) i more) (row_depth_at cs key i d more)

pub depth_first : (key : List ℕ) (tree : Tree) (others : Others) → place key others ≡ 0 → path_depth key (branch tree others) ≡ suc (path_depth key tree)
depth_first key tree others h = rw (place_none key others h) refl

pub depth_other : (key : List ℕ) (tree : Tree) (cs : Children) (i : ℕ) (d : List ℕ × Node) → place key (others_view cs) ≡ suc i → path_depth key (branch tree (others_view cs)) ≡ suc (path_depth key (node_at cs i d))
depth_other key tree cs i d h = rw (place_some key (others_view cs) i h) (ap suc (row_depth_at cs key i d h))

-- ---- the tree with what was read

pub row_supplied_at : (cs : Children) (key : List ℕ) (t : Tree) (i : ℕ) (d : List ℕ × Node) → place key (others_view cs) ≡ suc i
    → row_supplied key t (others_view cs) ≡ others_less (others_view cs) i (Some (supplied key t (node_at cs i d)))
row_supplied_at [] key t i d h = absurd (omega (arith, h))
row_supplied_at (c ∷ cs) key t zero d h = rw (place_none key (others_view cs) (row_step key c.0 (tree_of c.1) (others_view cs) 0 h)) refl
row_supplied_at (c ∷ cs) key t (suc i) d h =
    let more = row_step key c.0 (tree_of c.1) (others_view cs) (suc i) h in
    rw (place_some key (others_view cs) i more) (ap (other c.0 (tree_of c.1)) (row_supplied_at cs key t i d more))

pub supplied_first : (key : List ℕ) (t tree : Tree) (others : Others) → place key others ≡ 0 → supplied key t (branch tree others) ≡ branch (supplied key t tree) others
supplied_first key t tree others h = rw (place_none key others h) refl

pub supplied_other : (key : List ℕ) (t tree : Tree) (cs : Children) (i : ℕ) (d : List ℕ × Node) → place key (others_view cs) ≡ suc i
    → supplied key t (branch tree (others_view cs)) ≡ branch tree (others_less (others_view cs) i (Some (supplied key t (node_at cs i d))))
supplied_other key t tree cs i d h = rw (place_some key (others_view cs) i h) (ap (branch tree) (row_supplied_at cs key t i d h))

-- ---- what the bytes of a page say

pub leaf_says : (bounds : Bounds) (n : ℕ) (bytes : List ℕ) (pairs : List Pair) → leaf_of (place_in bounds 0 n) [] None bytes ≡ Some pairs → tree_in bounds 0 n bytes ≡ Some (leaf pairs)
leaf_says bounds n bytes pairs h = rw h refl

pub leaf_says_nothing : (bounds : Bounds) (n : ℕ) (bytes : List ℕ) → leaf_of (place_in bounds 0 n) [] None bytes ≡ None → tree_in bounds 0 n bytes ≡ None
leaf_says_nothing bounds n bytes h = rw h refl

pub branch_says : (bounds : Bounds) (level n : ℕ) (bytes : List ℕ) (children : List Child) → 0 < level → branch_of (place_in bounds level n) [] None bytes ≡ Some children → tree_in bounds level n bytes ≡ branch_named children
branch_says bounds zero n bytes children lt h = absurd (omega (arith, lt))
branch_says bounds (suc level) n bytes children lt h = rw h refl

pub branch_says_nothing : (bounds : Bounds) (level n : ℕ) (bytes : List ℕ) → 0 < level → branch_of (place_in bounds level n) [] None bytes ≡ None → tree_in bounds level n bytes ≡ None
branch_says_nothing bounds zero n bytes lt h = absurd (omega (arith, lt))
branch_says_nothing bounds (suc level) n bytes lt h = rw h refl

-- one level further down
pub one_less : (level below result depth under : ℕ) → below ≡ level - 1 → result ≡ below - under → depth ≡ suc under → result ≡ level - depth
one_less level below result depth under b r d = omega (arith, b, r, d)
