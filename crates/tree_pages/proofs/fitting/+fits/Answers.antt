use Rattle.std.proofs.Common.{◌≡◌, ◌≤◌, ◌+◌, ◌-◌, ◌++◌, ◌∷◌, [], List, ℕ, suc, take, sym, ap, subst, ◌∙◌, arith}
use Rattle.std.proofs.lemmas.List.{take_more}
use Rattle.tree_nodes.specs.Tree.{branch, other_bytes, entry_room}
use Rattle.tree_nodes.specs.NodeView.{tree_of, others_view}
use Rattle.tree_nodes.specs.PageBytes.{IsWritable}
use Rattle.tree_nodes.specs.declared.node.Node.{Node}
use Rattle.tree_nodes.proofs.NodesAsTrees.{Children, tree_branch}
use Rattle.tree_pages.specs.Written.{AllFit, RowFits}
use Rattle.tree_pages.proofs.AddedPages.{branch_parts, row_fits_at}
use Rattle.tree_pages.proofs.Fitted.{branch_fits, row_fits_more, below_is}
use Rattle.tree_pages.proofs.fitting.+fits.Goals as goal

pub children_fit-returns-then-not-fits_pages : goal.children_fit-returns-then-not-fits_pages
children_fit-returns-then-not-fits_pages t c =
    let cs = c.args.children.now in
    let x = c.child-item.result in (
      λ no. absurd (cc no),
      λ row.
          let here = row_fits_at c.args.level cs c.loop-child.child-index x c.loop-child-test.true row in
          let fits : AllFit c.args.level (tree_of x.1) = subst (λ (y : List ℕ × Node). AllFit c.args.level (tree_of y.1)) (sym c.child-item.is) here in
          let yes = c.fits_pages.ensures.1 fits in
          let no = c.if-not-fits_pages.true in
          absurd (cc (yes, no)),
    )

pub children_fit-loop-child-preserved : goal.children_fit-loop-child-preserved
children_fit-loop-child-preserved t c =
    let i = c.loop-child.child-index in
    let cs = c.args.children.now in
    let x = c.child-item.result in
    let more : take (i + 1) cs ≡ take i cs ++ x ∷ [] = take_more cs i x c.loop-child-test.true ∙ ap (λ (y : List ℕ × Node). take i cs ++ y ∷ []) (sym c.child-item.is) in
    subst (λ (l : Children). RowFits c.args.level (others_view l)) (sym more) (row_fits_more c.args.level (take i cs) x c.loop-child.invariant (c.fits_pages.ensures.0 c.if-not-fits_pages.false))

pub fits_pages-returns-else-not-fits_pages : goal.fits_pages-returns-else-not-fits_pages
fits_pages-returns-else-not-fits_pages t c =
    let level = c.args.level in
    let first = tree_of c.in-Branch.first.value in
    let others = others_view c.in-Branch.others.items in
    let is : tree_of c.args.node.now ≡ branch first others = ap tree_of c.in-Branch.is ∙ tree_branch c.in-Branch.first c.in-Branch.others in
    let up : level ≡ suc (level - 1) = let some = c.if-level-eq0.false in omega (arith, some) in
    let size : 6 + other_bytes others ≤ entry_room = subst IsWritable is (c.is_writable.ensures.0 c.if-not-is_writable.false) in
    let child : AllFit (level - 1) first = subst (λ (m : Node). AllFit (level - 1) (tree_of m)) c.deref.ensures (c.fits_pages.ensures.0 c.if-not-fits_pages.false) in (
      λ yes.
          let row : RowFits (level - 1) others = subst (λ (l : Children). RowFits (level - 1) (others_view l)) c.deref-in-Branch.ensures.value (c.children_fit.ensures.0 yes) in
          subst (AllFit level) (sym is) (branch_fits level (level - 1) first others up child row size),
      λ all.
          let parts = branch_parts level first others (subst (AllFit level) is all) in
          let below : parts.below ≡ level - 1 = sym (below_is level parts.below parts.is) in
          c.children_fit.ensures.1 (subst (λ (l : Children). RowFits (level - 1) (others_view l)) (sym c.deref-in-Branch.ensures.value) (subst (λ (b : ℕ). RowFits b others) below parts.others_fit)),
    )
