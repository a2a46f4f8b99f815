use Rattle.tree_nodes.proofs.NodesAndLevels.{put_pages, put_owned}
use Rattle.tree_nodes.proofs.laws.a_put_makes_one_node_on_each_level.Goals as goal

pub returns-clause-pages : goal.returns-clause-pages
returns-clause-pages c = put_pages

pub returns-clause-nodes : goal.returns-clause-nodes
returns-clause-nodes c = put_owned
