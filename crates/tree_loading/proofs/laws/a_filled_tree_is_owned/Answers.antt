use Rattle.tree_loading.proofs.RootsMade.{filled_pages, filled_reaches}
use Rattle.tree_loading.proofs.laws.a_filled_tree_is_owned.Goals as goal

pub returns-clause-pages : goal.returns-clause-pages
returns-clause-pages c = filled_pages

pub returns-clause-reached : goal.returns-clause-reached
returns-clause-reached c = filled_reaches
