use Rattle.tree_loading.proofs.RootsMade.{filled_fits}
use Rattle.tree_loading.proofs.laws.a_filled_tree_fits.Goals as goal

pub returns : goal.returns
returns c = filled_fits
