use Rattle.tree_pages.proofs.PagesPut.{all_used}
use Rattle.tree_pages.proofs.reach_laws.all_given_numbers_are_used.Goals as goal

pub returns : goal.returns
returns c = all_used
