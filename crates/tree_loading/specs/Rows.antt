-- What a level comes to while it is made: it has some nodes, and the entries of the node that is being filled.
use Rattle.std.specs.Prelude.{List, [], ◌∷◌, ◌++◌}
use Rattle.page_store.specs.Pages.{Pair}
use Rattle.tree_nodes.specs.Tree.{Others, leaf, branch, none, other}
use Rattle.tree_nodes.specs.Put.{front_pairs, front_others}
use Rattle.tree_nodes.specs.NodeView.{others_view}
use Rattle.tree_loading.specs.Filled.{leaves_behind, branches_behind}
use Rattle.tree_loading.specs.Full.{rows_joined}
use Rattle.tree_loading.specs.declared.leaf_row.LeafRow.{LeafRow}
use Rattle.tree_loading.specs.declared.branch_row.BranchRow.{BranchRow}

-- a leaf before others, where it has pairs
abbrev pub leaf_before : List Pair → Others → Others
leaf_before [] others = others
leaf_before (pair ∷ pairs) others = other pair.0 (leaf (pair ∷ pairs)) others

-- a branch before others, where it has children
abbrev pub branch_before : Others → Others → Others
branch_before none others = others
branch_before (other key tree row) others = other key (branch tree row) others

-- the leaves once these pairs have come, too
abbrev pub leaves_with : LeafRow → List Pair → Others
leaves_with made pairs = rows_joined (others_view made.row.items) (leaf_before (made.here.items ++ front_pairs made.room pairs) (leaves_behind made.room pairs))

-- the branches once these nodes have come, too
abbrev pub branches_with : BranchRow → Others → Others
branches_with made others = rows_joined (others_view made.row.items) (branch_before (rows_joined (others_view made.here.items) (front_others made.room others)) (branches_behind made.room others))
