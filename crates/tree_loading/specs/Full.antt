-- The levels of a tree, and nodes of a level of which none has room for the first entry of the next.
use Rattle.std.specs.Prelude.{ℕ, zero, suc, ◌+◌, ◌<◌, List, ◌∷◌, length}
use Rattle.page_store.specs.Pages.{Pair}
use Rattle.page_store.specs.Flat.{entry_size}
use Rattle.tree_nodes.specs.Tree.{Tree, Others, page, leaf, branch, none, other, entry_room, leaf_bytes, other_bytes}

-- two leaves, of which the first has no room for the second's first pair
abbrev pub IsFullBefore : List Pair → Tree → Type 0
IsFullBefore pairs (leaf (next ∷ rest)) = entry_room < leaf_bytes pairs + entry_size next
IsFullBefore pairs next = ⊥

-- a node has no room for the first entry of the next one, which has this key
abbrev pub HasNoRoom : Tree → List ℕ → Tree → Type 0
HasNoRoom (page n) key next = ⊥
HasNoRoom (leaf pairs) key next = IsFullBefore pairs next
HasNoRoom (branch first others) key next = entry_room < 6 + other_bytes others + (6 + length key)

-- each node of a level but the last
abbrev pub AreFull : Others → Type 0
AreFull none = Unit {0}
AreFull (other key tree none) = Unit {0}
AreFull (other key tree (other next sibling others)) = HasNoRoom tree next sibling × AreFull (other next sibling others)

-- nodes, and others after them
abbrev pub rows_joined : Others → Others → Others
rows_joined none others = others
rows_joined (other key tree row) others = other key tree (rows_joined row others)

-- all children of the nodes of a level
abbrev pub children_of : Others → Others
children_of none = none
children_of (other key (page n) row) = children_of row
children_of (other key (leaf pairs) row) = children_of row
children_of (other key (branch first others) row) = other key first (rows_joined others (children_of row))

-- the nodes so many levels below
abbrev pub level_below : ℕ → Others → Others
level_below zero row = row
level_below (suc n) row = level_below n (children_of row)
