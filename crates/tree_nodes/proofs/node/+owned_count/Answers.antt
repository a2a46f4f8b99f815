use Rattle.std.proofs.Common.{◌≡◌, ℕ, zero, suc, ◌+◌, ◌-◌, ◌^◌, ◌<◌, ◌≤◌, List, [], ◌∷◌, length, take, get_or, sym, ap, ◌∙◌, arith}
use Rattle.std.proofs.lemmas.List.{take_all}
use Rattle.std.specs.Prelude.{min}
use Rattle.tree_nodes.specs.Tree.{Tree, owned_nodes, row_owned_nodes}
use Rattle.tree_nodes.specs.NodeView.{tree_of, others_view}
use Rattle.tree_nodes.specs.declared.node.Node.{Node}
use Rattle.tree_nodes.proofs.NodesAsTrees.{Children, tree_branch}
use Rattle.tree_nodes.proofs.node.+owned_count.Goals as goal

row_more : (cs : Children) (i : ℕ) (x : List ℕ × Node) → i < length cs → x ≡ get_or cs i x → row_owned_nodes (others_view (take (suc i) cs)) ≡ row_owned_nodes (others_view (take i cs)) + owned_nodes (tree_of x.1)
row_more [] i x lt is = absurd (omega (arith, lt))
row_more (c ∷ cs) zero x lt is = let same = ap (λ (y : List ℕ × Node). owned_nodes (tree_of y.1)) is in omega (arith, same)
row_more (c ∷ cs) (suc i) x lt is = let more = row_more cs i x (omega (arith, lt)) is in omega (arith, more)

-- two sums that stop at a bound
both_stop : (m start row node count one next : ℕ) → count ≡ min (start + row) m → one ≡ min node m → next ≡ min (count + one) m → next ≡ min (start + (row + node)) m
both_stop m start row node count one next c o n = omega (arith, c, o, n)

all_stop : (m first row own start count : ℕ) → 1 ≤ m → own ≡ min first m → start ≡ min (own + 1) m → count ≡ min (start + row) m → count ≡ min (first + row + 1) m
all_stop m first row own start count le o s c = omega (arith, le, o, s, c)

pub loop-child-init : goal.loop-child-init
loop-child-init t c = omega (arith, c.saturating_add-count.type_inv)

pub loop-child-preserved : goal.loop-child-preserved
loop-child-preserved t c =
    let cs = c.deref-child-items.result.now in
    let i = c.loop-child.child-index in
    let x = c.child-item.result in
    let next : suc i ≡ i + 1 = omega arith in
    let row = sym (row_more cs i x c.loop-child-test.true c.child-item.is) ∙ ap (λ (n : ℕ). row_owned_nodes (others_view (take n cs))) next in
    both_stop (2 ^ 64 - 1) c.saturating_add-count.result (row_owned_nodes (others_view (take i cs))) (owned_nodes (tree_of x.1)) c.loop-child.count c.owned_count-in-loop-child.result c.saturating_add-count-in-loop-child.result
    c.loop-child.invariant c.owned_count-in-loop-child.ensures c.saturating_add-count-in-loop-child.ensures
    ∙ ap (λ (n : ℕ). min (c.saturating_add-count.result + n) (2 ^ 64 - 1)) row

pub returns-after-loop-child : goal.returns-after-loop-child
returns-after-loop-child t c =
    let cs = c.deref-child-items.result.now in
    let is = ap tree_of c.in-Branch.is ∙ tree_branch c.in-Branch.first c.in-Branch.others in
    let row : row_owned_nodes (others_view (take c.loop-child.child-index cs)) ≡ row_owned_nodes (others_view c.in-Branch.others.items) =
    ap (λ (l : Children). row_owned_nodes (others_view l)) (take_all c.loop-child.child-index cs c.loop-child-test.false ∙ c.deref-child-items.ensures.value) in
    let own = c.owned_count.ensures ∙ ap (λ (n : Node). min (owned_nodes (tree_of n)) (2 ^ 64 - 1)) c.deref.ensures in
    all_stop (2 ^ 64 - 1) (owned_nodes (tree_of c.in-Branch.first.value)) (row_owned_nodes (others_view c.in-Branch.others.items)) c.owned_count.result c.saturating_add-count.result c.loop-child.count
    (omega arith) own c.saturating_add-count.ensures (c.loop-child.invariant ∙ ap (λ (n : ℕ). min (c.saturating_add-count.result + n) (2 ^ 64 - 1)) row)
    ∙ sym (ap (λ (tree : Tree). min (owned_nodes tree) (2 ^ 64 - 1)) is)
