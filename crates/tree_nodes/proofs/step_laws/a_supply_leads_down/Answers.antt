use Rattle.tree_nodes.proofs.PathsDown.{leads_down, supply_height}
use Rattle.tree_nodes.proofs.step_laws.a_supply_leads_down.Goals as goal

pub returns-clause-any : goal.returns-clause-any
returns-clause-any c = leads_down

pub returns-clause-height : goal.returns-clause-height
returns-clause-height c = supply_height
