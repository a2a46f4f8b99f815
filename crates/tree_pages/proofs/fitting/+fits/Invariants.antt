use Rattle.std.proofs.Common.{take, ◌*◌, ◌+◌}
use Rattle.tree_nodes.specs.NodeView.{others_view}
use Rattle.tree_pages.specs.Written.{RowFits}
use Rattle.tree_pages.proofs.fitting.+fits.Given as goal

abbrev pub invariant-children_fit-loop-child : goal.invariant-children_fit-loop-child
invariant-children_fit-loop-child l = RowFits l.level (others_view (take l.child-index l.children))

abbrev pub decreases-fits_pages : goal.decreases-fits_pages
decreases-fits_pages l = 2 * l.level

abbrev pub decreases-children_fit : goal.decreases-children_fit
decreases-children_fit l = 2 * l.level + 1
