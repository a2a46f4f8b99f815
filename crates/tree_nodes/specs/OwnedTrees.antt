-- What a tree's root and height are, and what a put or a delete answers.
use Rattle.std.specs.Prelude.{ℕ, Option, Some, None}
use Rattle.tree_nodes.specs.Tree.{Tree, page}
use Rattle.tree_nodes.specs.Steps.{RootState}
use Rattle.tree_nodes.specs.NodeView.{left_of}
use Rattle.tree_nodes.specs.declared.owned_tree.EditAnswer.{EditAnswer}
use Rattle.tree_nodes.specs.declared.owned_tree.EditAnswer.TheVariants.{Done, Need}
use Rattle.tree_nodes.specs.declared.owned_tree.OwnedTree.{OwnedTree}

abbrev pub state_of : OwnedTree → RootState
state_of tree = record { root = left_of tree.root; height = tree.height }

-- the tree under a page of an image
abbrev pub at_page : ℕ → ℕ → RootState
at_page n height = record { root = Some (page n); height = height }

-- the tree under a root of so many levels
abbrev pub over_root : Tree → ℕ → RootState
over_root tree height = record { root = Some tree; height = height }

-- the page that is needed
abbrev pub need_of : EditAnswer → Option ℕ
need_of Done = None
need_of (Need n) = Some n
