use Rattle.tree_nodes.specs.Splits.{branch_place}
use Rattle.tree_nodes.proofs.splitting.branch_place.Goals as goal

pub returns-clause-count : goal.returns-clause-count
unfolding branch_place
returns-clause-count c = c.fitting_others.ensures.count
