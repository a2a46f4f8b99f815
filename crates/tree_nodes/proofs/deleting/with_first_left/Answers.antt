use Rattle.std.proofs.Common.{◌<◌, length, Option, Some, sym, ap, ◌∙◌, arith}
use Rattle.tree_nodes.specs.Tree.{Tree, branch}
use Rattle.tree_nodes.specs.Delete.{first_left}
use Rattle.tree_nodes.specs.NodeView.{tree_of, others_view, left_of}
use Rattle.tree_nodes.specs.declared.node.Node.{Node}
use Rattle.tree_nodes.proofs.NodesAsTrees.{tree_branch, first_gone, Children}
use Rattle.tree_nodes.proofs.deleting.with_first_left.Goals as goal

pub returns-in-Some : goal.returns-in-Some
returns-in-Some c =
    ap (λ (t : Tree). Some t) (tree_branch _ c.args.others)
    ∙ sym (ap (λ (t : Option Node). first_left (left_of t) (others_view c.args.others.items)) c.in-Some.is)

pub returns-else-is_empty : goal.returns-else-is_empty
returns-else-is_empty c =
    let some : 0 < length c.args.others.items = (let len = c.remove-next.ensures.len in let ok = c.args.others.ok in omega (arith, len, ok)) in
    ap (λ (t : Tree). Some t) (tree_branch _ c.remove-next.new.self)
    ∙ ap (λ (l : Children). Some (branch (tree_of c.remove-next.result.1) (others_view l))) c.remove-next.ensures.items
    ∙ first_gone c.args.others.items c.remove-next.result some c.remove-next.ensures.value
    ∙ sym (ap (λ (t : Option Node). first_left (left_of t) (others_view c.args.others.items)) c.in-None.is)
