use Rattle.std.proofs.Common.{rules}
use Rattle.cow_tree.specs.KeptLeaves.{pairs_from}
use Rattle.cow_tree.proofs.LeafPlaces.{walked_on, found_nowhere}
use Rattle.cow_tree.proofs.kept_leaf.place_after.Goals as goal

pub loop-here-preserved : goal.loop-here-preserved
loop-here-preserved c =
    walked_on c.args.key.now (c.in-Some.here.now, c.in-Some.value.now) (pairs_from c.args.bytes.now c.in-Some.behind.at c.in-Some.behind.left) (pairs_from c.args.bytes.now c.loop-here.place.at c.loop-here.place.left)
    (pairs_from c.args.bytes.now c.args.from.at c.args.from.left) c.in-Some.ensures.pairs (search rules) c.loop-here.invariant

pub returns-clause-reached : goal.returns-clause-reached
returns-clause-reached c =
    found_nowhere c.args.key.now (pairs_from c.args.bytes.now c.loop-here.place.at c.loop-here.place.left) (pairs_from c.args.bytes.now c.args.from.at c.args.from.left) c.in_default.ensures.pairs c.loop-here.invariant
