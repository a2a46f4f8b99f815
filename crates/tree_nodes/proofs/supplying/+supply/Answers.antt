use Rattle.std.proofs.Common.{◌≡◌, List, ◌≤◌, ◌<◌, ℕ, suc, ◌-◌, length, Some, subst, sym, ap, ◌∙◌, arith}
use Rattle.tree_nodes.specs.Tree.{Tree, place, branch}
use Rattle.tree_nodes.specs.Delete.{others_less}
use Rattle.tree_nodes.specs.Supply.{supplied}
use Rattle.tree_nodes.specs.NodeView.{tree_of, others_view}
use Rattle.tree_nodes.specs.declared.node.Node.{Node}
use Rattle.tree_nodes.proofs.NodesAsTrees.{tree_branch, less_again, node_at, Children}
use Rattle.tree_nodes.proofs.NodesRead.{supplied_first, supplied_other}
use Rattle.tree_nodes.proofs.supplying.+supply.Goals as goal

pub returns-then-place-eq0 : goal.returns-then-place-eq0
returns-then-place-eq0 t c =
    let key = c.args.key.now in
    let read = tree_of c.args.read in
    let tree = tree_of c.in-Branch.first.value in
    let others = others_view c.in-Branch.others.items in
    let is = ap tree_of c.in-Branch.is ∙ tree_branch c.in-Branch.first c.in-Branch.others in
    let placed : place key others ≡ 0 = sym (c.place_of-place.ensures.place ∙ ap (λ (l : Children). place key (others_view l)) c.deref.ensures.value) ∙ c.if-place-eq0.true in
    let child : tree_of c.supply-child.result ≡ supplied key read tree = c.supply-child.ensures ∙ ap (λ (n : Node). supplied key read (tree_of n)) (c.replace-child.ensures.value ∙ c.deref_mut.ensures.value) in
    tree_branch _ c.in-Branch.others ∙ ap (λ (x : Tree). branch x others) child ∙ sym (ap (supplied key read) is ∙ supplied_first key read tree others placed)

pub returns-else-place-eq0 : goal.returns-else-place-eq0
returns-else-place-eq0 t c =
    let key = c.args.key.now in
    let read = tree_of c.args.read in
    let cs = c.in-Branch.others.items in
    let tree = tree_of c.in-Branch.first.value in
    let d = c.index_mut.result.now in
    let is = ap tree_of c.in-Branch.is ∙ tree_branch c.in-Branch.first c.in-Branch.others in
    let same : c.place_of-place.result ≡ place key (others_view cs) = c.place_of-place.ensures.place ∙ ap (λ (l : Children). place key (others_view l)) c.deref.ensures.value in
    let bound : c.place_of-place.result ≤ length cs = subst (λ (l : Children). c.place_of-place.result ≤ length l) c.deref.ensures.value c.place_of-place.ensures.bound in
    let placed : place key (others_view cs) ≡ suc (c.place_of-place.result - 1) = omega (arith, same, c.if-place-eq0.false) in
    let inside : c.place_of-place.result - 1 < length cs = omega (arith, bound, c.if-place-eq0.false) in
    let child : tree_of c.replace-child-else-place-eq0.result ≡ node_at cs (c.place_of-place.result - 1) d = ap tree_of c.replace-child-else-place-eq0.ensures.value ∙ ap (λ (x : List ℕ × Node). tree_of x.1) c.index_mut.ensures.value in
    let left : tree_of c.supply-child-else-place-eq0.result ≡ supplied key read (node_at cs (c.place_of-place.result - 1) d) = c.supply-child-else-place-eq0.ensures ∙ ap (supplied key read) child in
    let row : others_view c.with_child_left-others.result.items ≡ others_less (others_view cs) (c.place_of-place.result - 1) (Some (supplied key read (node_at cs (c.place_of-place.result - 1) d))) =
    c.with_child_left-others.ensures ∙ less_again cs (c.place_of-place.result - 1) d _ (Some (tree_of c.supply-child-else-place-eq0.result)) inside c.index_mut.ensures.value
    ∙ ap (λ (x : Tree). others_less (others_view cs) (c.place_of-place.result - 1) (Some x)) left in
    tree_branch c.in-Branch.first c.with_child_left-others.result ∙ ap (branch tree) row
    ∙ sym (ap (supplied key read) is ∙ supplied_other key read tree cs (c.place_of-place.result - 1) d placed)
