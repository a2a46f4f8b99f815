use Rattle.std.proofs.Common.{refl}
use Rattle.tree_nodes.specs.PageBytes.{leaf_page}
use Rattle.cow_tree.proofs.formatting.a_first_leaf.Goals as goal

pub returns : goal.returns
unfolding leaf_page
returns c = record { head = refl; top = refl; word = refl; zeros = refl }
