use Rattle.std.proofs.Common.{◌≡◌, ◌+◌, ◌++◌, ◌∷◌, [], List, ℕ, take, length, sym, ap, ◌∙◌, arith, append_assoc}
use Rattle.std.proofs.lemmas.List.{take_more}
use Rattle.page_store.specs.Pages.{Child}
use Rattle.page_store.specs.Heads.{seen_child}
use Rattle.tree_nodes.specs.PageBytes.{child_bytes, children_bytes, other_entries, number_of}
use Rattle.tree_nodes.specs.NodeView.{tree_of, others_view}
use Rattle.tree_nodes.specs.declared.node.Node.{Node}
use Rattle.tree_nodes.proofs.NodesAsTrees.{Children}
use Rattle.tree_nodes.proofs.WrittenChildren.{key_at, children_push}
use Rattle.tree_nodes.proofs.encoding.put_others.Goals as goal

pub put_child-requires : goal.put_child-requires
put_child-requires c =
    let x = c.child-item.result in
    let size = key_at c.args.others.now c.loop-child.child-index x c.loop-child-test.true c.child-item.is in
    let same : length c.as_slice.result.now ≡ length x.0 = ap length c.as_slice.ensures in
    omega (arith, size, same, c.requires)

pub loop-child-preserved : goal.loop-child-preserved
loop-child-preserved c =
    let i = c.loop-child.child-index in
    let cs = c.args.others.now in
    let x = c.child-item.result in
    let key = c.as_slice.result.now in
    let n = c.page_number.result in
    let out = c.args.out.now.items in
    let body = children_bytes (other_entries (others_view (take i cs))) in
    let more = take_more cs i x c.loop-child-test.true in
    let more2 : take (i + 1) cs ≡ take i cs ++ x ∷ [] = more ∙ ap (λ (y : List ℕ × Node). take i cs ++ y ∷ []) (sym c.child-item.is) in
    let seen : seen_child key n ≡ seen_child x.0 (number_of (tree_of x.1)) = ap (λ (k : List ℕ). seen_child k n) c.as_slice.ensures ∙ ap (seen_child x.0) c.page_number.ensures in
    c.in_ok-put_child.ensures ∙ ap (λ (l : List ℕ). l ++ child_bytes (seen_child key n)) c.loop-child.invariant ∙ append_assoc out body (child_bytes (seen_child key n))
    ∙ ap (λ (l : List ℕ). out ++ l) (ap (λ (ch : Child). body ++ child_bytes ch) seen ∙ sym (children_push (take i cs) x) ∙ ap (λ (l : Children). children_bytes (other_entries (others_view l))) (sym more2))
