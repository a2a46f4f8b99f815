use Rattle.tree_pages.proofs.PagesPut.{valid_fits}
use Rattle.tree_pages.proofs.reach_laws.a_valid_tree_fits.Goals as goal

pub returns : goal.returns
returns c = λ old level tree. valid_fits tree old level
