-- What a node is.
use Rattle.std.specs.Prelude.{ℕ, List, [], ◌∷◌, map, Option, Some, None}
use Rattle.tree_nodes.specs.Tree.{Tree, page, leaf, branch, Others, none, other}
use Rattle.tree_nodes.specs.Put.{Grown, one, two}
use Rattle.tree_nodes.specs.declared.node.NodeGrown.{NodeGrown}
use Rattle.tree_nodes.specs.declared.node.NodeGrown.TheVariants.{One, Two}
use Rattle.tree_nodes.specs.declared.node.Node.{Node, fold-Node}
use Rattle.tree_nodes.specs.declared.node.Node.TheOpen.{Node-F}

abbrev pub others_of : List (List ℕ × Tree) → Others
others_of [] = none
others_of (child ∷ children) = other child.0 child.1 (others_of children)

-- one level, with each child already seen as its tree
abbrev pub view_step : Node-F Tree → Tree
view_step (Node-F.Page n) = page n
view_step (Node-F.Leaf v) = leaf v.items
view_step (Node-F.Packed pairs) = leaf pairs
view_step (Node-F.Branch first v) = branch first.value (others_of v.items)

abbrev pub tree_of : Node → Tree
tree_of = fold-Node Tree view_step

abbrev pub others_view : List (List ℕ × Node) → Others
others_view children = others_of (map (λ c. (c.0, tree_of c.1)) children)

abbrev pub grown_of : NodeGrown → Grown
grown_of (One node) = one (tree_of node)
grown_of (Two node key next) = two (tree_of node) key (tree_of next)

abbrev pub left_of : Option Node → Option Tree
left_of None = None
left_of (Some node) = Some (tree_of node)
