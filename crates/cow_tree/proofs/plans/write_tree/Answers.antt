use Rattle.std.proofs.Common.{◌≡◌, ◌-◌, ℕ, List, [], Option, refl, sym, subst, arith}
use Rattle.tree_nodes.specs.Tree.{Tree}
use Rattle.tree_nodes.specs.Steps.{IsValidRoot}
use Rattle.tree_nodes.specs.NodeView.{tree_of}
use Rattle.page_store.specs.declared.commit.NewPage.{NewPage}
use Rattle.tree_pages.specs.Written.{AddsTree, AllFit, IsTreePage}
use Rattle.cow_tree.specs.Plans.{IsRootWritten, IsRootInside}
use Rattle.cow_tree.proofs.RootsPlaced.{valid_root_fits, root_inside}
use Rattle.cow_tree.proofs.plans.write_tree.Goals as goal
use Rattle.cow_tree.proofs.plans.write_tree.Goals.{then-page-lt2-via-then-page-lt2, then-page-lt2-via-else-page-lt2+then-page-slot}

pub returns-in_default-clause-written : goal.returns-in_default-clause-written
returns-in_default-clause-written c =
    subst (λ (o : Option Tree). IsRootWritten c.args.slot.now.root.pages c.args.seal c.args.numbers.now c.args.tree.now.height o c.in_ok-pages.pages.items 0) c.in_default.ensures (c.in_ok-pages.ensures.items, refl)

pub returns-then-not-fits_pages-clause-sound : goal.returns-then-not-fits_pages-clause-sound
returns-then-not-fits_pages-clause-sound c = λ old valid inside all.
    let tree = tree_of c.in-Some.root.now in
    let below : c.saturating_sub-level.result ≡ c.args.tree.now.height - 1 = let a = c.saturating_sub-level.ensures in let b = c.height.ensures in omega (arith, a, b) in
    let fits = valid_root_fits old tree c.args.tree.now.height c.saturating_sub-level.result (subst (λ (o : Option Tree). IsValidRoot old o c.args.tree.now.height) (sym c.in-Some.ensures) valid) below in
    let yes = c.fits_pages.ensures.1 fits in
    let no = c.if-not-fits_pages.true in
    absurd (cc (yes, no))

pub returns-then-page-lt2-clause-sound : goal.returns-then-page-lt2-clause-sound
returns-then-page-lt2-clause-sound c = λ old valid inside all.
    let tree = tree_of c.in-Some.root.now in
    let count = c.args.slot.now.root.pages in
    let added : AddsTree c.args.numbers.now c.args.seal c.saturating_sub-level.result [] c.write_node.new.pages.items tree c.in_ok-page.page =
    subst (λ (l : List NewPage). AddsTree c.args.numbers.now c.args.seal c.saturating_sub-level.result l c.write_node.new.pages.items tree c.in_ok-page.page) c.in_ok-pages.ensures.items c.in_ok-page.ensures in
    let here : IsTreePage count c.in_ok-page.page = root_inside count c.args.numbers.now c.args.seal c.saturating_sub-level.result c.write_node.new.pages.items tree c.in_ok-page.page (subst (λ (o : Option Tree). IsRootInside count o) (sym c.in-Some.ensures) inside) all added in
    elim c.then-page-lt2.branch [
      | then-page-lt2-via-then-page-lt2 w ↦ let less = w.if-page-lt2.true in absurd (omega (arith, less, here.0))
      | then-page-lt2-via-else-page-lt2+then-page-slot w ↦ let more = w.if-page-slot.true in absurd (omega (arith, more, here.1))
    ]

pub returns-clause-written : goal.returns-clause-written
returns-clause-written c =
    let tree = tree_of c.in-Some.root.now in
    let height = c.args.tree.now.height in
    let count = c.args.slot.now.root.pages in
    let below : c.saturating_sub-level.result ≡ height - 1 = let a = c.saturating_sub-level.ensures in let b = c.height.ensures in omega (arith, a, b) in
    let added : AddsTree c.args.numbers.now c.args.seal c.saturating_sub-level.result [] c.write_node.new.pages.items tree c.in_ok-page.page =
    subst (λ (l : List NewPage). AddsTree c.args.numbers.now c.args.seal c.saturating_sub-level.result l c.write_node.new.pages.items tree c.in_ok-page.page) c.in_ok-pages.ensures.items c.in_ok-page.ensures in
    let fits : AllFit c.saturating_sub-level.result tree = c.fits_pages.ensures.0 c.if-not-fits_pages.false in
    let least = c.if-page-lt2.false in
    let most = c.if-page-slot.false in
    subst (λ (o : Option Tree). IsRootWritten count c.args.seal c.args.numbers.now height o c.write_node.new.pages.items c.in_ok-page.page) c.in-Some.ensures
    (subst (λ (n : ℕ). AddsTree c.args.numbers.now c.args.seal n [] c.write_node.new.pages.items tree c.in_ok-page.page) below added, subst (λ (n : ℕ). AllFit n tree) below fits, (omega (arith, least), omega (arith, most)))
