use Rattle.std.proofs.Common.{◌≡◌, List, ◌≤◌, ◌<◌, ℕ, suc, ◌-◌, length, Some, subst, sym, ap, ◌∙◌, arith}
use Rattle.tree_nodes.specs.Tree.{Tree, Others, place, branch}
use Rattle.tree_nodes.specs.Delete.{others_less}
use Rattle.tree_nodes.specs.Delete.{delete as delete_in}
use Rattle.tree_nodes.specs.NodeView.{tree_of, others_view, left_of}
use Rattle.tree_nodes.specs.declared.node.Node.{Node}
use Rattle.tree_nodes.proofs.NodesAsTrees.{tree_branch, delete_other, less_again, node_at, Children}
use Rattle.tree_nodes.proofs.deleting.+delete.Goals as goal

pub returns-else-place-eq0 : goal.returns-else-place-eq0
returns-else-place-eq0 t c =
    let key = c.args.key.now in
    let cs = c.in-Branch.others.items in
    let tree = tree_of c.in-Branch.first.value in
    let d = c.index_mut.result.now in
    let is = ap tree_of c.in-Branch.is ∙ tree_branch c.in-Branch.first c.in-Branch.others in
    let same : c.place_of-place.result ≡ place key (others_view cs) = c.place_of-place.ensures.place ∙ ap (λ (l : Children). place key (others_view l)) c.deref.ensures.value in
    let bound : c.place_of-place.result ≤ length cs = subst (λ (l : Children). c.place_of-place.result ≤ length l) c.deref.ensures.value c.place_of-place.ensures.bound in
    let placed : place key (others_view cs) ≡ suc (c.place_of-place.result - 1) = omega (arith, same, c.if-place-eq0.false) in
    let inside : c.place_of-place.result - 1 < length cs = omega (arith, bound, c.if-place-eq0.false) in
    let child : tree_of c.replace-child-else-place-eq0.result ≡ node_at cs (c.place_of-place.result - 1) d = ap tree_of c.replace-child-else-place-eq0.ensures.value ∙ ap (λ (x : List ℕ × Node). tree_of x.1) c.index_mut.ensures.value in
    let left : left_of c.delete-left-else-place-eq0.result ≡ delete_in key (node_at cs (c.place_of-place.result - 1) d) = c.delete-left-else-place-eq0.ensures ∙ ap (delete_in key) child in
    let row : others_view c.with_child_left-others.result.items ≡ others_less (others_view cs) (c.place_of-place.result - 1) (delete_in key (node_at cs (c.place_of-place.result - 1) d)) =
    c.with_child_left-others.ensures ∙ less_again cs (c.place_of-place.result - 1) d _ (left_of c.delete-left-else-place-eq0.result) inside c.index_mut.ensures.value
    ∙ ap (others_less (others_view cs) (c.place_of-place.result - 1)) left in
    ap (λ (x : Tree). Some x) (tree_branch c.in-Branch.first c.with_child_left-others.result) ∙ ap (λ (l : Others). Some (branch tree l)) row
    ∙ sym (ap (delete_in key) is ∙ delete_other key tree cs (c.place_of-place.result - 1) d placed)
