use Rattle.tree_nodes.proofs.OwnedCounts.{put_makes_few, delete_makes_none, supply_makes_one}
use Rattle.tree_nodes.proofs.step_laws.steps_make_few_nodes.Goals as goal

pub returns-clause-put : goal.returns-clause-put
returns-clause-put c = λ old state key value v p. put_makes_few old state.root state.height key value v

pub returns-clause-delete : goal.returns-clause-delete
returns-clause-delete c = λ state key. delete_makes_none state.root state.height key

pub returns-clause-supply : goal.returns-clause-supply
returns-clause-supply c = supply_makes_one
