use Rattle.std.proofs.Common.{◌≡◌, List, ◌≤◌, ◌<◌, ℕ, suc, ◌-◌, length, IfOk, subst, sym, ap, ◌∙◌, arith}
use Rattle.tree_nodes.specs.Tree.{place}
use Rattle.tree_nodes.specs.Put.{Grown, others_with, split_branch}
use Rattle.tree_nodes.specs.Put.{put as put_in}
use Rattle.tree_nodes.specs.NodeView.{tree_of, others_view, grown_of}
use Rattle.tree_nodes.specs.declared.node.Node.{Node}
use Rattle.tree_nodes.proofs.NodesAsTrees.{tree_branch, put_other, with_again, node_at, Children}
use Rattle.tree_nodes.proofs.putting.+put.Goals as goal

pub returns-in_ok-others-in-Branch : goal.returns-in_ok-others-in-Branch
returns-in_ok-others-in-Branch t c =
    let key = c.args.key.now in
    let value = c.args.value.now in
    let cs = c.in-Branch.others.items in
    let at = c.place_of-place.result - 1 in
    let tree = tree_of c.in-Branch.first.value in
    let d = c.index_mut.result.now in
    let is = ap tree_of c.in-Branch.is ∙ tree_branch c.in-Branch.first c.in-Branch.others in
    let same : c.place_of-place.result ≡ place key (others_view cs) = c.place_of-place.ensures.place ∙ ap (λ (l : Children). place key (others_view l)) c.deref.ensures.value in
    let bound : c.place_of-place.result ≤ length cs = subst (λ (l : Children). c.place_of-place.result ≤ length l) c.deref.ensures.value c.place_of-place.ensures.bound in
    let placed : place key (others_view cs) ≡ suc (c.place_of-place.result - 1) = omega (arith, same, c.if-place-eq0.false) in
    let inside : c.place_of-place.result - 1 < length cs = omega (arith, bound, c.if-place-eq0.false) in
    let child : tree_of c.replace-child-else-place-eq0.result ≡ node_at cs (c.place_of-place.result - 1) d = ap tree_of c.replace-child-else-place-eq0.ensures.value ∙ ap (λ (x : List ℕ × Node). tree_of x.1) c.index_mut.ensures.value in
    let grown : grown_of c.in_ok-grown-in-Branch-2.grown ≡ put_in key value (node_at cs (c.place_of-place.result - 1) d) = c.in_ok-grown-in-Branch-2.ensures ∙ ap (put_in key value) child in
    let row : others_view c.in_ok-others-in-Branch.others.items ≡ others_with (others_view cs) (c.place_of-place.result - 1) (put_in key value (node_at cs (c.place_of-place.result - 1) d)) =
    c.in_ok-others-in-Branch.ensures ∙ with_again cs (c.place_of-place.result - 1) d _ (grown_of c.in_ok-grown-in-Branch-2.grown) inside c.index_mut.ensures.value
    ∙ ap (others_with (others_view cs) (c.place_of-place.result - 1)) grown in
    let whole : split_branch tree (others_view c.in_ok-others-in-Branch.others.items) ≡ put_in key value (tree_of c.args.node) =
    ap (split_branch tree) row ∙ sym (ap (put_in key value) is ∙ put_other key value tree cs (c.place_of-place.result - 1) d placed) in
    subst (λ (x : Grown). IfOk c.split_branch.result (λ g'. grown_of g' ≡ x)) whole c.split_branch.ensures
