use Rattle.std.proofs.Common.{refl}
use Rattle.tree_nodes.proofs.ListsOfSteps.{steps_hold}
use Rattle.tree_nodes.proofs.laws.any_list_of_steps.Goals as goal

pub returns-clause-steps : goal.returns-clause-steps
returns-clause-steps c = steps_hold

pub returns-clause-none : goal.returns-clause-none
returns-clause-none c = λ old. refl
