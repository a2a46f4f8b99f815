use Rattle.tree_loading.proofs.RootsMade.{filled_valid, filled_pairs}
use Rattle.tree_loading.proofs.laws.a_filled_tree_has_the_pairs.Goals as goal

pub returns-clause-valid : goal.returns-clause-valid
returns-clause-valid c = filled_valid

pub returns-clause-pairs : goal.returns-clause-pairs
returns-clause-pairs c = filled_pairs
