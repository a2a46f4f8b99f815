use Rattle.std.proofs.Common.{◌≡◌, ◌+◌, ◌++◌, [], List, ℕ, length, ap, ◌∙◌, arith, length-append, append_assoc}
use Rattle.page_store.specs.Encoding.{padded}
use Rattle.page_store.specs.Heads.{seen_child}
use Rattle.tree_nodes.specs.PageBytes.{head_bytes, child_bytes, children_bytes, other_entries, branch_entries, branch_page}
use Rattle.tree_nodes.specs.NodeView.{tree_of, others_view}
use Rattle.tree_nodes.proofs.EncodedPages.{children_length}
use Rattle.tree_nodes.proofs.WrittenChildren.{view_count, entries_count}
use Rattle.tree_nodes.proofs.encoding.branch_page.Goals as goal

pub overflow_cast-others : goal.overflow_cast-others
overflow_cast-others c = omega (arith, view_count c.args.others.now, c.requires)

pub padded_page-requires : goal.padded_page-requires
padded_page-requires c =
    let head = head_bytes c.args.page c.args.generation c.args.level (length c.args.others.now + 1) in
    let first = child_bytes (seen_child [] c.page_number.result) in
    let rest = children_bytes (other_entries (others_view c.args.others.now)) in
    let same : c.put_others.new.out.items ≡ (head ++ first) ++ rest = c.in_ok-put_others.ensures ∙ ap (λ (l : List ℕ). l ++ rest) (c.in_ok-put_child.ensures ∙ ap (λ (l : List ℕ). l ++ first) c.in_ok-bytes.ensures) in
    omega (arith, ap length same, length-append (head ++ first) rest, length-append head first, children_length (others_view c.args.others.now), c.requires)

pub returns : goal.returns
unfolding branch_page
returns c =
    let tree = tree_of c.args.first.now in
    let others = others_view c.args.others.now in
    let head = head_bytes c.args.page c.args.generation c.args.level (length c.args.others.now + 1) in
    let first = child_bytes (seen_child [] c.page_number.result) in
    let rest = children_bytes (other_entries others) in
    let same : c.put_others.new.out.items ≡ (head ++ first) ++ rest = c.in_ok-put_others.ensures ∙ ap (λ (l : List ℕ). l ++ rest) (c.in_ok-put_child.ensures ∙ ap (λ (l : List ℕ). l ++ first) c.in_ok-bytes.ensures) in
    let whole : padded 4096 c.put_others.new.out.items ≡ branch_page c.args.page c.args.generation c.args.level (branch_entries tree others) =
    ap (padded 4096) (same ∙ append_assoc head first rest ∙ ap (λ (n : ℕ). head ++ (child_bytes (seen_child [] n) ++ rest)) c.page_number.ensures
    ∙ ap (λ (n : ℕ). head_bytes c.args.page c.args.generation c.args.level n ++ children_bytes (branch_entries tree others)) (entries_count tree c.args.others.now)) in
    c.padded_page.ensures ∙ ap (padded 4096) c.deref.ensures.value ∙ whole
