use Rattle.tree_nodes.specs.Splits.{leaf_place}
use Rattle.tree_nodes.proofs.splitting.leaf_place.Goals as goal

pub returns-clause-count : goal.returns-clause-count
unfolding leaf_place
returns-clause-count c = c.fitting.ensures.count
