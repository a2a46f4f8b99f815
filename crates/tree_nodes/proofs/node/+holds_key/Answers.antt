use Rattle.std.proofs.Common.{◌≡◌, List, ℕ, suc, ◌-◌, sym, ap, ◌∙◌, arith}
use Rattle.tree_nodes.specs.Tree.{place}
use Rattle.tree_nodes.specs.Keys.{has_key}
use Rattle.tree_nodes.specs.NodeView.{tree_of, others_view}
use Rattle.tree_nodes.specs.declared.node.Node.{Node}
use Rattle.tree_nodes.proofs.NodesAsTrees.{tree_branch, Children}
use Rattle.tree_nodes.proofs.KeysKnown.{has_first, has_other}
use Rattle.tree_nodes.proofs.node.+holds_key.Goals as goal

pub returns-then-place-eq0 : goal.returns-then-place-eq0
returns-then-place-eq0 t c =
    let key = c.args.key.now in
    let is = ap tree_of c.in-Branch.is ∙ tree_branch c.in-Branch.first c.in-Branch.others in
    let placed : place key (others_view c.in-Branch.others.items) ≡ 0 = sym (c.place_of-place.ensures.place ∙ ap (λ (l : Children). place key (others_view l)) c.deref-in-Branch.ensures.value) ∙ c.if-place-eq0.true in
    c.holds_key.ensures ∙ ap (λ (n : Node). has_key key (tree_of n)) c.deref-then-place-eq0.ensures ∙ sym (ap (has_key key) is ∙ has_first key (tree_of c.in-Branch.first.value) (others_view c.in-Branch.others.items) placed)

pub returns-else-place-eq0 : goal.returns-else-place-eq0
returns-else-place-eq0 t c =
    let key = c.args.key.now in
    let is = ap tree_of c.in-Branch.is ∙ tree_branch c.in-Branch.first c.in-Branch.others in
    let same : c.place_of-place.result ≡ place key (others_view c.in-Branch.others.items) = c.place_of-place.ensures.place ∙ ap (λ (l : Children). place key (others_view l)) c.deref-in-Branch.ensures.value in
    let placed : place key (others_view c.in-Branch.others.items) ≡ suc (c.place_of-place.result - 1) = omega (arith, same, c.if-place-eq0.false) in
    c.holds_key-else-place-eq0.ensures ∙ ap (λ (x : List ℕ × Node). has_key key (tree_of x.1)) c.index.ensures
    ∙ sym (ap (has_key key) is ∙ has_other key (tree_of c.in-Branch.first.value) c.in-Branch.others.items (c.place_of-place.result - 1) c.index.result.now placed)
