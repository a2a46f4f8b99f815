use Rattle.std.proofs.Common.{◌+◌, ◌≤◌, sym, ap, ◌∙◌, subst}
use Rattle.std.specs.Prelude.{IsTrue, ◌↔◌}
use Rattle.tree_nodes.specs.Tree.{Tree, entry_room, other_bytes}
use Rattle.tree_nodes.specs.PageBytes.{IsWritable}
use Rattle.tree_nodes.specs.NodeView.{tree_of, others_view}
use Rattle.tree_nodes.proofs.NodesAsTrees.{tree_branch, Children}
use Rattle.tree_nodes.proofs.encoding.is_writable.Goals as goal

pub returns-in-Branch : goal.returns-in-Branch
returns-in-Branch c =
    let is = ap tree_of c.in-Branch.is ∙ tree_branch c.in-Branch.field-0 c.in-Branch.others in
    subst (λ (t : Tree). IsTrue c.branch_fits.result ↔ IsWritable t) (sym is)
    (subst (λ (l : Children). IsTrue c.branch_fits.result ↔ (6 + other_bytes (others_view l) ≤ entry_room)) c.deref-in-Branch.ensures.value c.branch_fits.ensures)
