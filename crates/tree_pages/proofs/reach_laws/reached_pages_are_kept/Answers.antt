use Rattle.tree_pages.proofs.KeptPages.{reached_kept}
use Rattle.tree_pages.proofs.reach_laws.reached_pages_are_kept.Goals as goal

pub returns : goal.returns
returns c = reached_kept
