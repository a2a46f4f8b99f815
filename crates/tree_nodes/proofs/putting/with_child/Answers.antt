use Rattle.std.proofs.Common.{◌≡◌, ℕ, suc, ◌+◌, insert, set, sym, ap, ◌∙◌, arith}
use Rattle.tree_nodes.specs.Put.{others_with}
use Rattle.tree_nodes.specs.NodeView.{others_view, grown_of}
use Rattle.tree_nodes.specs.declared.node.NodeGrown.{NodeGrown}
use Rattle.tree_nodes.proofs.NodesAsTrees.{set_one, set_two}
use Rattle.tree_nodes.proofs.putting.with_child.Goals as goal

pub returns-in-One : goal.returns-in-One
returns-in-One c =
    set_one c.args.others.items c.args.at c.index_mut.result.now c.in-One.child c.requires c.index_mut.ensures.value
    ∙ sym (ap (λ (g : NodeGrown). others_with (others_view c.args.others.items) c.args.at (grown_of g)) c.in-One.is)

pub returns-in_ok-insert-in-Two : goal.returns-in_ok-insert-in-Two
returns-in_ok-insert-in-Two c =
    let old = c.args.others.items in
    let next : c.args.at + 1 ≡ suc c.args.at = omega arith in
    ap others_view (c.in_ok-insert-in-Two.ensures.items)
    ∙ ap (λ (n : ℕ). others_view (insert (set old c.args.at (c.index_mut-in-Two.result.now.0, c.in-Two.child)) n (c.in-Two.key, c.in-Two.next))) next
    ∙ set_two old c.args.at c.index_mut-in-Two.result.now c.in-Two.child c.in-Two.key c.in-Two.next c.requires c.index_mut-in-Two.ensures.value
    ∙ sym (ap (λ (g : NodeGrown). others_with (others_view old) c.args.at (grown_of g)) c.in-Two.is)
