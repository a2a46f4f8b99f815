use Rattle.tree_nodes.proofs.NodesAndLevels.{rooted_valid, small_branch}
use Rattle.tree_nodes.proofs.laws.a_put_adds_at_most_one_level.Goals as goal

pub returns-clause-valid : goal.returns-clause-valid
returns-clause-valid c = rooted_valid

pub returns-clause-small : goal.returns-clause-small
returns-clause-small c = small_branch
