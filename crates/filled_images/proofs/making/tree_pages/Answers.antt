use Rattle.std.proofs.Common.{◌≡◌, ◌-◌, ℕ, List, [], Option, refl, sym, subst, arith}
use Rattle.page_store.specs.declared.commit.NewPage.{NewPage}
use Rattle.tree_nodes.specs.Tree.{Tree}
use Rattle.tree_nodes.specs.NodeView.{tree_of}
use Rattle.tree_pages.specs.Written.{AddsTree, AllFit}
use Rattle.filled_images.specs.FilledImages.{IsTreeMade}
use Rattle.filled_images.proofs.making.tree_pages.Goals as goal

pub returns-in_default : goal.returns-in_default
returns-in_default c = subst (λ (o : Option Tree). IsTreeMade c.args.numbers.now c.args.tree.now.height o c.new-pages.result.items 0) c.in_default.ensures (c.new-pages.ensures.items, refl)

pub write_node-requires-clause-fits : goal.write_node-requires-clause-fits
write_node-requires-clause-fits c =
    let tree = tree_of c.in-Some.root.now in
    let below : c.args.tree.now.height - 1 ≡ c.saturating_sub-level.result = let a = c.saturating_sub-level.ensures in let b = c.height.ensures in omega (arith, a, b) in
    subst (λ (n : ℕ). AllFit n tree) below (c.requires.fits tree (sym c.in-Some.ensures))

pub returns : goal.returns
returns c =
    let tree = tree_of c.in-Some.root.now in
    let height = c.args.tree.now.height in
    let below : c.saturating_sub-level.result ≡ height - 1 = let a = c.saturating_sub-level.ensures in let b = c.height.ensures in omega (arith, a, b) in
    let added : AddsTree c.args.numbers.now 1 c.saturating_sub-level.result [] c.write_node.new.pages.items tree c.in_ok-page.page =
    subst (λ (l : List NewPage). AddsTree c.args.numbers.now 1 c.saturating_sub-level.result l c.write_node.new.pages.items tree c.in_ok-page.page) c.new-pages.ensures.items c.in_ok-page.ensures in
    subst (λ (o : Option Tree). IsTreeMade c.args.numbers.now height o c.write_node.new.pages.items c.in_ok-page.page) c.in-Some.ensures
    (subst (λ (n : ℕ). AddsTree c.args.numbers.now 1 n [] c.write_node.new.pages.items tree c.in_ok-page.page) below added)
