-- The tree of some pairs in filled pages: the pairs cut into the longest runs that fit a leaf, then the nodes of each level cut into the longest runs that fit a branch, up to one root.
use Rattle.std.specs.Prelude.{ℕ, zero, suc, ◌+◌, ◌-◌, List, [], ◌∷◌, length, Some, nat_le, if◌then◌else◌}
use Rattle.page_store.specs.Pages.{Pair}
use Rattle.page_store.specs.Flat.{entry_size}
use Rattle.tree_nodes.specs.Tree.{Others, leaf, branch, none, other, entry_room}
use Rattle.tree_nodes.specs.Put.{front_pairs, front_others}
use Rattle.tree_nodes.specs.Steps.{RootState, no_tree}

-- The leaves behind one that has so many bytes left: it takes the longest front of the pairs that fits these, and each leaf after it the longest run that fits a page. Each has its first key.
abbrev pub leaves_behind : ℕ → List Pair → Others
leaves_behind room [] = none
leaves_behind room (pair ∷ pairs) =
    if nat_le (entry_size pair) room then leaves_behind (room - entry_size pair) pairs
    else other pair.0 (leaf (pair ∷ front_pairs (entry_room - entry_size pair) pairs)) (leaves_behind (entry_room - entry_size pair) pairs)

-- the leaves of all pairs
abbrev pub leaves_of : List Pair → Others
leaves_of pairs = leaves_behind 0 pairs

-- bytes of a branch's page for its children after the first, whose entry has 6 bytes, since its key is left out
abbrev pub branch_room : ℕ
branch_room = 4066

-- The branches behind one that has so many bytes left, in the same way. The first of the nodes under a branch gives it its key.
abbrev pub branches_behind : ℕ → Others → Others
branches_behind room none = none
branches_behind room (other key tree others) =
    if nat_le (6 + length key) room then branches_behind (room - (6 + length key)) others
    else other key (branch tree (front_others branch_room others)) (branches_behind branch_room others)

-- the branches over all nodes of a level
abbrev pub branches_of : Others → Others
branches_of level = branches_behind 0 level

-- The root over a level, which stands so high: its only node, or the root over the branches over it. At most so many levels are made.
abbrev pub root_over : ℕ → ℕ → Others → RootState
root_over most height none = no_tree
root_over most height (other key tree none) = record { root = Some tree; height = height }
root_over zero height (other key tree (other next sibling others)) = no_tree
root_over (suc most) height (other key tree (other next sibling others)) = root_over most (suc height) (branches_of (other key tree (other next sibling others)))

-- The tree of some pairs in filled pages. As many levels over the leaves as there are pairs are more than enough.
abbrev pub filled : List Pair → RootState
filled pairs = root_over (length pairs) 1 (leaves_of pairs)
