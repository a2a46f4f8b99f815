use Rattle.std.proofs.Common.{◌-◌, ℕ, List, length, sym, ap, subst, ◌∙◌, arith}
use Rattle.page_store.specs.Commit.{numbers}
use Rattle.tree_nodes.specs.Growth.{owned_under}
use Rattle.tree_nodes.specs.OwnedTrees.{state_of}
use Rattle.tree_nodes.specs.Steps.{RootState}
use Rattle.filled_images.specs.FilledImages.{pages_for, RootFits}
use Rattle.filled_images.proofs.FirstFilled.{filled_fits, need_is, tree_made, pages_numbered, pages_counted, slot_made}
use Rattle.filled_images.proofs.PageNumbers.{so_many, pages_inside}
use Rattle.filled_images.proofs.filled_image.FilledImage.new.Goals as goal

pub tree_pages-requires-clause-fits : goal.tree_pages-requires-clause-fits
tree_pages-requires-clause-fits c = subst RootFits (sym c.in_ok-tree.ensures) (filled_fits c.args.pairs.items c.requires.map)

pub tree_pages-requires-clause-room : goal.tree_pages-requires-clause-room
tree_pages-requires-clause-room c =
    let need = need_is c.args.pairs.items c.owned_nodes-need.result (state_of c.in_ok-tree.tree) c.requires.map c.requires.few c.in_ok-tree.ensures c.owned_nodes-need.ensures in
    let owned = ap (λ (s : RootState). owned_under s.root) c.in_ok-tree.ensures in
    let long = ap (λ (l : List ℕ). length l) c.deref.ensures.value ∙ ap (λ (l : List ℕ). length l) c.in_ok-numbers.ensures ∙ so_many 2 c.owned_nodes-need.result in
    omega (arith, need, owned, long)

pub returns-then-need-free-clause-fault : goal.returns-then-need-free-clause-fault
returns-then-need-free-clause-fault c =
    let need = need_is c.args.pairs.items c.owned_nodes-need.result (state_of c.in_ok-tree.tree) c.requires.map c.requires.few c.in_ok-tree.ensures c.owned_nodes-need.ensures in
    let least = c.if-count-lt-LEAST_PAGES.false in
    let most = c.if-count-gt-MOST_PAGES.false in
    let free = c.from-free.ensures in
    (omega (arith, least), omega (arith, most), need, omega (arith, free, least), c.if-need-free.true)

pub invariant_of-result : goal.invariant_of-result
invariant_of-result c =
    let pairs = c.args.pairs.items in
    let need = need_is pairs c.owned_nodes-need.result (state_of c.in_ok-tree.tree) c.requires.map c.requires.few c.in_ok-tree.ensures c.owned_nodes-need.ensures in
    let made = tree_made pairs c.owned_nodes-need.result (state_of c.in_ok-tree.tree) c.deref.result.now c.in_ok-page.pages.items c.in_ok-page.page c.requires.map c.requires.few c.in_ok-tree.ensures c.owned_nodes-need.ensures (c.deref.ensures.value ∙ c.in_ok-numbers.ensures) c.in_ok-page.ensures in
    let least = c.if-count-lt-LEAST_PAGES.false in
    let most = c.if-count-gt-MOST_PAGES.false in
    let free = c.from-free.ensures in
    let room = c.if-need-free.false in
    let many = pages_counted pairs c.in_ok-page.pages.items c.in_ok-page.page made in
    record {
      inside = pages_inside c.args.count c.in_ok-page.pages.items 2 (pages_for pairs) (pages_numbered pairs c.in_ok-page.pages.items c.in_ok-page.page made) (omega arith) (omega (arith, need, room, free, least));
      least = omega (arith, least);
      most = omega (arith, most);
      few = omega (arith, many, need, room, free, least);
    }

pub returns-clause-made : goal.returns-clause-made
returns-clause-made c =
    let pairs = c.args.pairs.items in
    let tall = c.height.ensures ∙ ap (λ (s : RootState). s.height) c.in_ok-tree.ensures in
    let least = c.if-count-lt-LEAST_PAGES.false in
    let most = c.if-count-gt-MOST_PAGES.false in
    record {
      tree = tree_made pairs c.owned_nodes-need.result (state_of c.in_ok-tree.tree) c.deref.result.now c.in_ok-page.pages.items c.in_ok-page.page c.requires.map c.requires.few c.in_ok-tree.ensures c.owned_nodes-need.ensures (c.deref.ensures.value ∙ c.in_ok-numbers.ensures) c.in_ok-page.ensures;
      slot_is = slot_made c.args.count c.in_ok-page.page c.height.result c.len-keys.result c.args.banner pairs tall (let size = c.len-keys.ensures in omega (arith, size, c.args.pairs.ok));
      page = λ sectors fits. c.in_ok-root.ensures.valid sectors (omega arith) (omega (arith, least), omega (arith, most), fits) c.requires.port;
    }
