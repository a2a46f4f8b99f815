use Rattle.std.proofs.Common.{take, ◌*◌, ◌+◌}
use Rattle.tree_nodes.specs.NodeView.{others_view}
use Rattle.tree_pages.specs.Written.{AddsRow}
use Rattle.tree_pages.proofs.writing.+writes.Given as goal

abbrev pub invariant-write_children-loop-child : goal.invariant-write_children-loop-child
invariant-write_children-loop-child l = AddsRow l.numbers l.generation l.level l.fn.pages.items l.pages.items (others_view (take l.child-index l.children)) (others_view l.named.items)

abbrev pub decreases-write_node : goal.decreases-write_node
decreases-write_node l = 2 * l.level

abbrev pub decreases-write_children : goal.decreases-write_children
decreases-write_children l = 2 * l.level + 1
