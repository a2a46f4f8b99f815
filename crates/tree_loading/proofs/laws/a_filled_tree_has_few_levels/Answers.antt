use Rattle.tree_loading.proofs.BranchesMade.{a_quarter}
use Rattle.tree_loading.proofs.RootsMade.{filled_height}
use Rattle.tree_loading.proofs.laws.a_filled_tree_has_few_levels.Goals as goal

pub returns-clause-levels : goal.returns-clause-levels
returns-clause-levels c = filled_height

pub returns-clause-quarter : goal.returns-clause-quarter
returns-clause-quarter c = a_quarter
