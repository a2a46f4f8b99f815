use Rattle.std.proofs.Common.{◌≡◌, List, ℕ, suc, ◌-◌, sym, ap, ◌∙◌, arith}
use Rattle.tree_nodes.specs.Tree.{place}
use Rattle.tree_nodes.specs.Supply.{path_depth}
use Rattle.tree_nodes.specs.NodeView.{tree_of, others_view}
use Rattle.tree_nodes.specs.declared.node.Node.{Node}
use Rattle.tree_nodes.proofs.NodesAsTrees.{tree_branch, Children}
use Rattle.tree_nodes.proofs.NodesRead.{depth_first, depth_other, one_less}
use Rattle.tree_nodes.proofs.supplying.+level_under.Goals as goal

pub returns-then-place-eq0 : goal.returns-then-place-eq0
returns-then-place-eq0 t c =
    let key = c.args.key.now in
    let is = ap tree_of c.in-Branch.is ∙ tree_branch c.in-Branch.first c.in-Branch.others in
    let placed : place key (others_view c.in-Branch.others.items) ≡ 0 = sym (c.place_of-place.ensures.place ∙ ap (λ (l : Children). place key (others_view l)) c.deref.ensures.value) ∙ c.if-place-eq0.true in
    let depth : path_depth key (tree_of c.args.node.now) ≡ suc (path_depth key (tree_of c.in-Branch.first.value)) = ap (path_depth key) is ∙ depth_first key (tree_of c.in-Branch.first.value) (others_view c.in-Branch.others.items) placed in
    one_less c.args.level c.saturating_sub-below.result _ _ _ c.saturating_sub-below.ensures (c.level_under.ensures ∙ ap (λ (n : Node). c.saturating_sub-below.result - path_depth key (tree_of n)) c.deref-then-place-eq0.ensures) depth

pub returns-else-place-eq0 : goal.returns-else-place-eq0
returns-else-place-eq0 t c =
    let key = c.args.key.now in
    let is = ap tree_of c.in-Branch.is ∙ tree_branch c.in-Branch.first c.in-Branch.others in
    let same : c.place_of-place.result ≡ place key (others_view c.in-Branch.others.items) = c.place_of-place.ensures.place ∙ ap (λ (l : Children). place key (others_view l)) c.deref.ensures.value in
    let placed : place key (others_view c.in-Branch.others.items) ≡ suc (c.place_of-place.result - 1) = omega (arith, same, c.if-place-eq0.false) in
    let depth = ap (path_depth key) is ∙ depth_other key (tree_of c.in-Branch.first.value) c.in-Branch.others.items (c.place_of-place.result - 1) c.index.result.now placed in
    one_less c.args.level c.saturating_sub-below.result _ _ _ c.saturating_sub-below.ensures (c.level_under-else-place-eq0.ensures ∙ ap (λ (x : List ℕ × Node). c.saturating_sub-below.result - path_depth key (tree_of x.1)) c.index.ensures) depth
