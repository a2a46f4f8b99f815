use Rattle.tree_pages.proofs.ChangesReach.{supply_leaves}
use Rattle.tree_pages.proofs.reach_laws.a_supply_leaves_one_page.Goals as goal

pub returns : goal.returns
returns c = supply_leaves
