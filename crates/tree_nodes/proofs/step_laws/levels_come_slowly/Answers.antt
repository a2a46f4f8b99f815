use Rattle.tree_nodes.proofs.LevelsCome.{levels_start, levels_put, levels_delete, levels_supply, levels_deep}
use Rattle.tree_nodes.proofs.step_laws.levels_come_slowly.Goals as goal

pub returns-clause-start : goal.returns-clause-start
returns-clause-start c = levels_start

pub returns-clause-put : goal.returns-clause-put
returns-clause-put c = levels_put

pub returns-clause-delete : goal.returns-clause-delete
returns-clause-delete c = levels_delete

pub returns-clause-supply : goal.returns-clause-supply
returns-clause-supply c = levels_supply

pub returns-clause-deep : goal.returns-clause-deep
returns-clause-deep c = levels_deep
