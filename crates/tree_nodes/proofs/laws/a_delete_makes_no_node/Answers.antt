use Rattle.tree_nodes.proofs.NodesAndLevels.{delete_pages, delete_owned, delete_count}
use Rattle.tree_nodes.proofs.laws.a_delete_makes_no_node.Goals as goal

pub returns-clause-pages : goal.returns-clause-pages
returns-clause-pages c = delete_pages

pub returns-clause-nodes : goal.returns-clause-nodes
returns-clause-nodes c = delete_owned

pub returns-clause-entries : goal.returns-clause-entries
returns-clause-entries c = delete_count
