use Rattle.tree_pages.proofs.FoundTrees.{found_tree}
use Rattle.tree_pages.proofs.laws.a_written_tree_is_found.Goals as goal

pub returns : goal.returns
returns c = found_tree
