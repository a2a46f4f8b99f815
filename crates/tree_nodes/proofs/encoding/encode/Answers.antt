use Rattle.std.proofs.Common.{◌≡◌, List, ℕ, IfOk, subst, sym, ap, ◌∙◌}
use Rattle.tree_nodes.specs.PageBytes.{branch_entries, branch_page, page_of_tree}
use Rattle.tree_nodes.specs.NodeView.{tree_of, others_view}
use Rattle.tree_nodes.specs.declared.node.Node.{Node}
use Rattle.tree_nodes.proofs.NodesAsTrees.{tree_branch, Children}
use Rattle.tree_nodes.proofs.encoding.encode.Goals as goal

pub returns-in-Branch : goal.returns-in-Branch
returns-in-Branch c =
    let first = c.deref-in-Branch.result.now in
    let others = c.deref-in-Branch-2.result.now in
    let is = ap tree_of c.in-Branch.is ∙ tree_branch c.in-Branch.first c.in-Branch.others in
    let whole : branch_page c.args.page c.args.generation c.args.level (branch_entries (tree_of first) (others_view others)) ≡ page_of_tree c.args.page c.args.generation c.args.level (tree_of c.args.node.now) =
    ap (λ (n : Node). branch_page c.args.page c.args.generation c.args.level (branch_entries (tree_of n) (others_view others))) c.deref-in-Branch.ensures
    ∙ ap (λ (l : Children). branch_page c.args.page c.args.generation c.args.level (branch_entries (tree_of c.in-Branch.first.value) (others_view l))) c.deref-in-Branch-2.ensures.value
    ∙ sym (ap (page_of_tree c.args.page c.args.generation c.args.level) is) in
    subst (λ (x : List ℕ). IfOk c.branch_page.result (λ bytes. bytes ≡ x)) whole c.branch_page.ensures
