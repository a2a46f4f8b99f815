use Rattle.std.proofs.Common.{◌<◌, length, drop, ◌∙◌, arith, length-set}
use Rattle.page_store.specs.Heads.{seen_child}
use Rattle.page_store.specs.Pages.{Child, child_at}
use Rattle.cow_tree.specs.Ways.{children_from}
use Rattle.cow_tree.specs.KeptPlaces.{entry_from}
use Rattle.cow_tree.proofs.PlacesFound.{row_first, child_inside, placed_more, placed_all}
use Rattle.cow_tree.proofs.page_places.child_places.Goals as goal

pub overflow_cast-at : goal.overflow_cast-at
overflow_cast-at c =
    let entry : Child = seen_child c.in-Some.field-0-0.now c.in-Some.field-0-1 in
    let inside = child_inside c.args.bytes.now c.loop-behind.place.at c.loop-behind.place.left entry (children_from c.args.bytes.now c.in-Some.behind.at c.in-Some.behind.left) c.in-Some.ensures.children in
    let long = c.told-bytes in
    omega (arith, inside, long)

pub loop-behind-preserved : goal.loop-behind-preserved
loop-behind-preserved c =
    let bytes = c.args.bytes.now in
    let place = c.loop-behind.place in
    let behind = c.in-Some.behind in
    let entry : Child = seen_child c.in-Some.field-0-0.now c.in-Some.field-0-1 in
    let there = row_first child_at place.left (drop place.at bytes) entry (children_from bytes behind.at behind.left) c.in-Some.ensures.children in
    let room : c.loop-behind.placed < length c.loop-behind.at = let few = c.if-placed-ge-MOST_PLACES.false in let long = c.loop-behind.invariant.long in omega (arith, few, long) in
    record {
      long = length-set c.loop-behind.at c.loop-behind.placed place.at ∙ c.loop-behind.invariant.long;
      places = placed_more (entry_from child_at bytes) (children_from bytes 24 c.args.count) (children_from bytes place.at place.left) c.loop-behind.placed c.loop-behind.at entry (children_from bytes behind.at behind.left) place.at room c.loop-behind.invariant.places c.in-Some.ensures.children there;
    }

pub overflow_cast-result : goal.overflow_cast-result
overflow_cast-result c = let few = c.loop-behind.invariant.places.few in let long = c.loop-behind.invariant.long in omega (arith, few, long)

pub returns : goal.returns
returns c =
    let bytes = c.args.bytes.now in
    let place = c.loop-behind.place in
    placed_all (entry_from child_at bytes) (children_from bytes 24 c.args.count) (children_from bytes place.at place.left) c.loop-behind.placed c.loop-behind.at c.loop-behind.invariant.places c.in_default.ensures.children
