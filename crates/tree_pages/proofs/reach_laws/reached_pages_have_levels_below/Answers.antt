use Rattle.tree_pages.proofs.LevelsReached.{walk_below, needed_page_level}
use Rattle.tree_pages.proofs.reach_laws.reached_pages_have_levels_below.Goals as goal

pub returns-clause-walked : goal.returns-clause-walked
returns-clause-walked c = walk_below

pub returns-clause-needed : goal.returns-clause-needed
returns-clause-needed c = needed_page_level
