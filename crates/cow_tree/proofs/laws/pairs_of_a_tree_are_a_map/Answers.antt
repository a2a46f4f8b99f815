use Rattle.cow_tree.proofs.TreesAreMaps.{found_map}
use Rattle.cow_tree.proofs.laws.pairs_of_a_tree_are_a_map.Goals as goal

pub returns : goal.returns
returns c = found_map
