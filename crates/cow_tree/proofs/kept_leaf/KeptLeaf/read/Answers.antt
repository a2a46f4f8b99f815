use Rattle.std.proofs.Common.{ap, sym, ◌∙◌, length, drop, List, [], None, refl, arith}
use Rattle.page_store.specs.Sectors.{page_of}
use Rattle.page_store.specs.Content.{place_in}
use Rattle.page_store.specs.Pages.{Pair, pair_at, leaf_of}
use Rattle.tree_nodes.specs.PageViews.{bounds_of, entries_by_head, pairs_in}
use Rattle.tree_nodes.proofs.PageForm.{leaf_told}
use Rattle.tree_nodes.proofs.PageHeads.{leaf_headed}
use Rattle.cow_tree.proofs.LeafBytes.{pairs_there, read_some}
use Rattle.cow_tree.proofs.FilledWalks.{filled_some, leaf_filled}
use Rattle.cow_tree.proofs.LeafPlaces.{nothing_tells}
use Rattle.cow_tree.proofs.kept_leaf.KeptLeaf.read.Goals as goal

pub returns-clause-pairs : goal.returns-clause-pairs
returns-clause-pairs g c = λ keeps pairs leaf.
    let place = place_in (bounds_of c.args.bounds) 0 c.args.page in
    let bytes = c.copy_page.new.bytes in
    let is = c.in_ok-copy_page.ensures.page keeps in
    let answered = c.in_ok-leaf.ensures.pairs ∙ ap (entries_by_head pair_at) (sym is) ∙ leaf_told place [] None (page_of (g.D.Device.state c.args.device.now).disk.view c.args.page) pairs leaf in
    pairs_there place [] None bytes pairs _ (ap (leaf_of place [] None) (sym is) ∙ leaf) (c.count_pairs-self-inside.ensures ∙ ap (λ (l : List Pair). length l) answered)

pub returns-in_err-leaf-clause-pairs : goal.returns-in_err-leaf-clause-pairs
returns-in_err-leaf-clause-pairs g c = λ keeps pairs leaf.
    let place = place_in (bounds_of c.args.bounds) 0 c.args.page in
    let long = c.copy_page.array_long in
    let headed = leaf_headed place [] None c.copy_page.new.bytes pairs refl (omega (arith, long)) (ap (leaf_of place [] None) (sym (c.in_ok-copy_page.ensures.page keeps)) ∙ leaf) in
    let both = sym c.in_err-leaf.ensures.fault.1 ∙ headed in
    absurd (cc both)

pub invariant_of-self : goal.invariant_of-self
invariant_of-self g c = nothing_tells [] (pairs_in c.self.inside.count (drop 24 c.copy_page.new.bytes)) refl

pub invariant_of-self-2 : goal.invariant_of-self-2
invariant_of-self-2 g c = nothing_tells [] (pairs_in c.count_pairs-self-inside.result (drop 24 c.copy_page.new.bytes)) refl

pub returns-then-self-lt1-clause-pairs : goal.returns-then-self-lt1-clause-pairs
returns-then-self-lt1-clause-pairs g c = λ keeps pairs leaf.
    let place = place_in (bounds_of c.args.bounds) 0 c.args.page in
    let is = c.in_ok-copy_page.ensures.page keeps in
    let answered = c.in_ok-leaf.ensures.pairs ∙ ap (entries_by_head pair_at) (sym is) ∙ leaf_told place [] None (page_of (g.D.Device.state c.args.device.now).disk.view c.args.page) pairs leaf in
    let count = c.count_pairs-self-inside.ensures ∙ ap (λ (l : List Pair). length l) answered in
    let few = c.if-self-lt1.true in
    let some = filled_some pairs (leaf_filled place [] None (page_of (g.D.Device.state c.args.device.now).disk.view c.args.page) pairs leaf) in
    absurd (omega (arith, count, few, some))

pub returns-clause-some : goal.returns-clause-some
returns-clause-some g c =
    let some = c.if-self-lt1.false in
    read_some (place_in (bounds_of c.args.bounds) 0 c.args.page) c.copy_page.new.bytes c.count_pairs-self-inside.result c.in_ok-leaf.ensures.head (c.count_pairs-self-inside.ensures ∙ ap (λ (l : List Pair). length l) c.in_ok-leaf.ensures.pairs) (omega (arith, some))
