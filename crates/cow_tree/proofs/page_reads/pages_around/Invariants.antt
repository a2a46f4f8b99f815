use Rattle.std.proofs.Common.{◌≡◌, ◌∷◌, []}
use Rattle.page_store.specs.Heads.{seen_child}
use Rattle.tree_nodes.specs.PageViews.{children_in}
use Rattle.cow_tree.specs.Ways.{pages_around}
use Rattle.cow_tree.proofs.page_reads.pages_around.Given as goal

abbrev pub invariant-loop-next : goal.invariant-loop-next
invariant-loop-next l = pages_around l.key (seen_child [] l.page ∷ children_in l.left.count l.left.entries.now) ≡ pages_around l.key (children_in l.branch.count l.branch.entries.now)

abbrev pub decreases-loop-next : goal.decreases-loop-next
decreases-loop-next l = l.left.count
