use Rattle.std.proofs.Common.{◌≡◌, ◌+◌, ◌++◌, ◌∷◌, [], List, ℕ, suc, length, take, get_or, sym, ap, subst, ◌∙◌, arith, length-append}
use Rattle.std.proofs.lemmas.List.{take_more}
use Rattle.tree_nodes.specs.Tree.{Tree, branch, page, other_bytes}
use Rattle.tree_nodes.specs.NodeView.{tree_of, others_view}
use Rattle.tree_nodes.specs.declared.node.Node.{Node, Page}
use Rattle.tree_nodes.proofs.NodesAsTrees.{Children, tree_branch}
use Rattle.tree_pages.specs.Written.{AllFit, RowFits, IsWritten, AreWritten, page_for, owned_nodes, row_owned_nodes}
use Rattle.tree_pages.proofs.AddedPages.{written_count, row_count, both_added, branch_parts, row_fits_at, owned_before, row_more, named_bytes, branch_written, if_ok}
use Rattle.tree_pages.proofs.writing.+writes.Goals as goal

pub write_children-write_node-requires : goal.write_children-write_node-requires
write_children-write_node-requires t c =
    let i = c.loop-child.child-index in
    let cs = c.args.children.now in
    let x = c.child-item.result in
    let inv = c.loop-child.invariant in
    let count = row_count (others_view (take i cs)) c.args.generation c.args.level (others_view c.loop-child.named.items) inv.0 inv.2 in
    let pages : length c.loop-child.pages.items ≡ length c.args.pages.now.items + length inv.0 = ap length inv.1.pages ∙ length-append c.args.pages.now.items inv.0 in
    let owned = owned_before cs i x c.loop-child-test.true in
    let same : owned_nodes (tree_of (get_or cs i x).1) ≡ owned_nodes (tree_of x.1) = ap (λ (y : List ℕ × Node). owned_nodes (tree_of y.1)) (sym c.child-item.is) in
    let room = c.requires.room in
    let measure = c.decreases in
    (omega (arith, measure), (omega (arith, count, pages, owned, same, room), subst (λ (y : List ℕ × Node). AllFit c.args.level (tree_of y.1)) (sym c.child-item.is) (row_fits_at c.args.level cs i x c.loop-child-test.true c.requires.fits)))

pub write_children-loop-child-preserved : goal.write_children-loop-child-preserved
write_children-loop-child-preserved t c =
    let i = c.loop-child.child-index in
    let cs = c.args.children.now in
    let x = c.child-item.result in
    let inv = c.loop-child.invariant in
    let w = c.in_ok-page.ensures in
    let named = c.loop-child.named.items in
    let n = c.in_ok-page.page in
    let more : take (i + 1) cs ≡ take i cs ++ x ∷ [] = take_more cs i x c.loop-child-test.true ∙ ap (λ (y : List ℕ × Node). take i cs ++ y ∷ []) (sym c.child-item.is) in
    let pushed : c.push.new.self.items ≡ named ++ (x.0, Page n) ∷ [] = c.in_ok-push.ensures.items ∙ ap (λ (k : List ℕ). named ++ (k, Page n) ∷ []) c.in_ok-clone.ensures.cases in
    let row = row_more c.args.generation c.args.level (take i cs) named x n inv.0 w.0 inv.2 w.2 in (
      inv.0 ++ w.0,
      both_added c.args.numbers.now c.args.pages.now.items c.loop-child.pages.items c.write_node.new.pages.items inv.0 w.0 inv.1 w.1,
      subst (λ (l : Children). AreWritten c.args.generation c.args.level (others_view (take (i + 1) cs)) (others_view l) (inv.0 ++ w.0)) (sym pushed)
          (subst (λ (l : Children). AreWritten c.args.generation c.args.level (others_view l) (others_view (named ++ (x.0, Page n) ∷ [])) (inv.0 ++ w.0)) (sym more) row),
    )

pub write_node-write_children-requires : goal.write_node-write_children-requires
write_node-write_children-requires t c =
    let level = c.args.level in
    let first = tree_of c.in-Branch.first.value in
    let others = others_view c.in-Branch.others.items in
    let is : tree_of c.args.node.now ≡ branch first others = ap tree_of c.in-Branch.is ∙ tree_branch c.in-Branch.first c.in-Branch.others in
    let parts = branch_parts level first others (subst (AllFit level) is c.requires.fits) in
    let below : c.saturating_sub-below.result ≡ parts.below = let less = c.saturating_sub-below.ensures in let up = parts.is in omega (arith, less, up) in
    let w = c.in_ok-child-in-Branch.ensures in
    let pages : length c.write_node.new.pages.items ≡ length c.args.pages.now.items + length w.0 = ap length w.1.pages ∙ length-append c.args.pages.now.items w.0 in
    let count = written_count (tree_of c.deref.result.now) c.args.generation c.saturating_sub-below.result c.in_ok-child-in-Branch.child w.0 w.2 in
    let owned = ap owned_nodes is in
    let same_first = ap (λ (m : Node). owned_nodes (tree_of m)) c.deref.ensures in
    let same_others = ap (λ (l : Children). row_owned_nodes (others_view l)) c.deref-in-Branch.ensures.value in
    let room = c.requires.room in
    let measure = c.decreases in
    let up = parts.is in (
      omega (arith, measure, below, up),
      (
        omega (arith, pages, count, owned, same_first, same_others, room),
        subst (λ (l : Children). RowFits c.saturating_sub-below.result (others_view l)) (sym c.deref-in-Branch.ensures.value) (subst (λ (b : ℕ). RowFits b others) (sym below) parts.others_fit),
      ),
    )

pub write_node-add_branch-requires-clause-room : goal.write_node-add_branch-requires-clause-room
write_node-add_branch-requires-clause-room t c =
    let first = tree_of c.in-Branch.first.value in
    let others = others_view c.in-Branch.others.items in
    let is : tree_of c.args.node.now ≡ branch first others = ap tree_of c.in-Branch.is ∙ tree_branch c.in-Branch.first c.in-Branch.others in
    let w = c.in_ok-child-in-Branch.ensures in
    let u = c.in_ok-named-in-Branch.ensures in
    let pages : length c.write_node.new.pages.items ≡ length c.args.pages.now.items + length w.0 = ap length w.1.pages ∙ length-append c.args.pages.now.items w.0 in
    let more : length c.write_children.new.pages.items ≡ length c.write_node.new.pages.items + length u.0 = ap length u.1.pages ∙ length-append c.write_node.new.pages.items u.0 in
    let count = written_count (tree_of c.deref.result.now) c.args.generation c.saturating_sub-below.result c.in_ok-child-in-Branch.child w.0 w.2 in
    let row = row_count (others_view c.deref-in-Branch.result.now) c.args.generation c.saturating_sub-below.result (others_view c.in_ok-named-in-Branch.named.items) u.0 u.2 in
    let owned = ap owned_nodes is in
    let same_first = ap (λ (m : Node). owned_nodes (tree_of m)) c.deref.ensures in
    let same_others = ap (λ (l : Children). row_owned_nodes (others_view l)) c.deref-in-Branch.ensures.value in
    let room = c.requires.room in
    omega (arith, pages, more, count, row, owned, same_first, same_others, room)

pub write_node-add_branch-requires-clause-fits : goal.write_node-add_branch-requires-clause-fits
write_node-add_branch-requires-clause-fits t c =
    let first = tree_of c.in-Branch.first.value in
    let others = others_view c.in-Branch.others.items in
    let is : tree_of c.args.node.now ≡ branch first others = ap tree_of c.in-Branch.is ∙ tree_branch c.in-Branch.first c.in-Branch.others in
    let parts = branch_parts c.args.level first others (subst (AllFit c.args.level) is c.requires.fits) in
    let u = c.in_ok-named-in-Branch.ensures in
    let bytes = named_bytes (others_view c.deref-in-Branch.result.now) c.args.generation c.saturating_sub-below.result (others_view c.in_ok-named-in-Branch.named.items) u.0 u.2 in
    let same_others = ap (λ (l : Children). other_bytes (others_view l)) c.deref-in-Branch.ensures.value in
    let size = parts.size in
    omega (arith, bytes, same_others, size)

pub write_node-returns-in_ok-named-in-Branch : goal.write_node-returns-in_ok-named-in-Branch
write_node-returns-in_ok-named-in-Branch t c =
    let level = c.args.level in
    let generation = c.args.generation in
    let below = c.saturating_sub-below.result in
    let given = c.args.numbers.now in
    let first = tree_of c.in-Branch.first.value in
    let others = others_view c.in-Branch.others.items in
    let named = others_view c.in_ok-named-in-Branch.named.items in
    let child = c.in_ok-child-in-Branch.child in
    let is : tree_of c.args.node.now ≡ branch first others = ap tree_of c.in-Branch.is ∙ tree_branch c.in-Branch.first c.in-Branch.others in
    let parts = branch_parts level first others (subst (AllFit level) is c.requires.fits) in
    let up : level ≡ suc below = let less = c.saturating_sub-below.ensures in let one = parts.is in omega (arith, less, one) in
    let w = c.in_ok-child-in-Branch.ensures in
    let u = c.in_ok-named-in-Branch.ensures in
    let here : IsWritten generation below first child w.0 = subst (λ (m : Node). IsWritten generation below (tree_of m) child w.0) c.deref.ensures w.2 in
    let row : AreWritten generation below others named u.0 = subst (λ (l : Children). AreWritten generation below (others_view l) named u.0) c.deref-in-Branch.ensures.value u.2 in
    let old = c.args.pages.now.items in
    let new = c.add_branch.new.pages.items in
    let both = both_added given old c.write_node.new.pages.items c.write_children.new.pages.items w.0 u.0 w.1 u.1 in
    if_ok c.add_branch.result
    (λ n added.
    let last = page_for n generation level (branch (page child) named) ∷ [] in (
      (w.0 ++ u.0) ++ last,
      both_added given old c.write_children.new.pages.items new (w.0 ++ u.0) last both added,
      subst (λ (tree : Tree). IsWritten generation level tree n ((w.0 ++ u.0) ++ last)) (sym is) (branch_written generation level below first others named child n w.0 u.0 up here row),
    ))
    c.add_branch.ensures
