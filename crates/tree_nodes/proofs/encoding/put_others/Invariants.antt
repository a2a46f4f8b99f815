use Rattle.std.proofs.Common.{◌≡◌, ◌++◌, take}
use Rattle.tree_nodes.specs.PageBytes.{children_bytes, other_entries}
use Rattle.tree_nodes.specs.NodeView.{others_view}
use Rattle.tree_nodes.proofs.encoding.put_others.Given as goal

abbrev pub invariant-loop-child : goal.invariant-loop-child
invariant-loop-child l = l.out.items ≡ l.fn.out.items ++ children_bytes (other_entries (others_view (take l.child-index l.others)))
