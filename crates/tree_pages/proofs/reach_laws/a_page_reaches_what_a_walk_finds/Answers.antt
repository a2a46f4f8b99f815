use Rattle.tree_pages.proofs.ChangesReach.{page_reaches}
use Rattle.tree_pages.proofs.reach_laws.a_page_reaches_what_a_walk_finds.Goals as goal

pub returns : goal.returns
returns c = page_reaches
