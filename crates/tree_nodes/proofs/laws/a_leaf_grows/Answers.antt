use Rattle.tree_nodes.proofs.LeafSplits.{put_leaf_valid, split_leaf_pairs}
use Rattle.tree_nodes.proofs.laws.a_leaf_grows.Goals as goal

pub returns-clause-valid : goal.returns-clause-valid
returns-clause-valid c = put_leaf_valid

pub returns-clause-pairs : goal.returns-clause-pairs
returns-clause-pairs c = split_leaf_pairs
