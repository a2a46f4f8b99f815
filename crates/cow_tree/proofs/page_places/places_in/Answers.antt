use Rattle.std.proofs.Common.{ℕ, ◌<◌, drop, arith}
use Rattle.page_store.specs.Pages.{pair_at, child_at}
use Rattle.tree_nodes.specs.PageViews.{pairs_in, children_in}
use Rattle.cow_tree.specs.KeptPlaces.{entry_from, AreFoundAt, ArePlaces, HasSoManyEntries}
use Rattle.cow_tree.proofs.PlacesFound.{if_some_then, leaf_placed, branch_placed}
use Rattle.cow_tree.proofs.page_places.places_in.Goals as goal

pub returns-then-level-eq0 : goal.returns-then-level-eq0
returns-then-level-eq0 c =
    let bytes = c.args.bytes.now in
    if_some_then c.pair_places.result (λ (n : ℕ). AreFoundAt (entry_from pair_at bytes) (pairs_in c.args.count (drop 24 bytes)) n c.pair_places.new.at) (λ (n : ℕ). HasSoManyEntries c.args.level bytes c.args.count → ArePlaces c.args.level bytes n c.pair_places.new.at)
    (λ n are has. leaf_placed c.args.level bytes c.args.count n c.pair_places.new.at c.if-level-eq0.true are has) c.pair_places.ensures

pub returns-else-level-eq0 : goal.returns-else-level-eq0
returns-else-level-eq0 c =
    let bytes = c.args.bytes.now in
    let some : 0 < c.args.level = let ne = c.if-level-eq0.false in omega (arith, ne) in
    if_some_then c.child_places.result (λ (n : ℕ). AreFoundAt (entry_from child_at bytes) (children_in c.args.count (drop 24 bytes)) n c.child_places.new.at) (λ (n : ℕ). HasSoManyEntries c.args.level bytes c.args.count → ArePlaces c.args.level bytes n c.child_places.new.at)
    (λ n are has. branch_placed c.args.level bytes c.args.count n c.child_places.new.at some are has) c.child_places.ensures
