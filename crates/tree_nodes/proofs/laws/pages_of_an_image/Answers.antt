use Rattle.tree_nodes.proofs.WalksWithinBounds.{old_pairs}
use Rattle.tree_nodes.proofs.PagesOpen.{image_is_old}
use Rattle.tree_nodes.proofs.laws.pages_of_an_image.Goals as goal

pub returns-clause-old : goal.returns-clause-old
returns-clause-old c = image_is_old

pub returns-clause-pairs : goal.returns-clause-pairs
returns-clause-pairs c = old_pairs
