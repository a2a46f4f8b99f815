use Rattle.std.proofs.Common.{Option, sym, ap, ◌∙◌}
use Rattle.tree_nodes.specs.Delete.{others_less}
use Rattle.tree_nodes.specs.NodeView.{others_view, left_of}
use Rattle.tree_nodes.specs.declared.node.Node.{Node}
use Rattle.tree_nodes.proofs.NodesAsTrees.{set_left, remove_left}
use Rattle.tree_nodes.proofs.deleting.with_child_left.Goals as goal

pub returns-in-Some : goal.returns-in-Some
returns-in-Some c =
    set_left c.args.others.items c.args.at c.index_mut.result.now c.in-Some.child c.requires c.index_mut.ensures.value
    ∙ sym (ap (λ (t : Option Node). others_less (others_view c.args.others.items) c.args.at (left_of t)) c.in-Some.is)

pub returns-in-None : goal.returns-in-None
returns-in-None c =
    ap others_view c.remove.ensures.items ∙ remove_left c.args.others.items c.args.at c.requires
    ∙ sym (ap (λ (t : Option Node). others_less (others_view c.args.others.items) c.args.at (left_of t)) c.in-None.is)
