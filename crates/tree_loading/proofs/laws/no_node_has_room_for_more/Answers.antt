use Rattle.tree_loading.proofs.LeavesMade.{leaves_full}
use Rattle.tree_loading.proofs.BranchesMade.{branches_full}
use Rattle.tree_loading.proofs.FullTrees.{filled_full}
use Rattle.tree_loading.proofs.laws.no_node_has_room_for_more.Goals as goal

pub returns-clause-leaves : goal.returns-clause-leaves
returns-clause-leaves c = leaves_full 0

pub returns-clause-branches : goal.returns-clause-branches
returns-clause-branches c = branches_full 0

pub returns-clause-tree : goal.returns-clause-tree
returns-clause-tree c = filled_full
