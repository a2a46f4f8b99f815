use Rattle.std.proofs.Common.{◌≤◌, arith}
use Rattle.cow_tree.proofs.LeafPlaces.{out_of_page, pair_there}
use Rattle.cow_tree.proofs.kept_leaf.pair_from.Goals as goal

pub returns-in_err-entries-clause-pairs : goal.returns-in_err-entries-clause-pairs
returns-in_err-entries-clause-pairs c = rw c.from_residual.ensures (out_of_page c.args.bytes.now c.args.place.at c.args.place.left c.in_err-entries.ensures.lookup.0)

pub overflow_sub-behind : goal.overflow_sub-behind
overflow_sub-behind c =
    let lent = c.in_ok-entries.ensures.lookup.0 in
    let some : 1 ≤ c.args.place.left = omega (arith, c.if-place-lt1.false) in
    (pair_there c.args.bytes.now c.in_ok-entries.entries.now c.in_ok-key.rest.now c.args.place.at c.args.place.left 4096 (c.in_ok-key.key.now, c.in_ok-key.value.now) c.told-bytes lent.0 lent.2 c.in_ok-key.ensures some).1

pub returns-clause-pairs : goal.returns-clause-pairs
returns-clause-pairs c =
    let lent = c.in_ok-entries.ensures.lookup.0 in
    let some : 1 ≤ c.args.place.left = omega (arith, c.if-place-lt1.false) in
    (pair_there c.args.bytes.now c.in_ok-entries.entries.now c.in_ok-key.rest.now c.args.place.at c.args.place.left 4096 (c.in_ok-key.key.now, c.in_ok-key.value.now) c.told-bytes lent.0 lent.2 c.in_ok-key.ensures some).0

pub returns-clause-sizes : goal.returns-clause-sizes
returns-clause-sizes c =
    let lent = c.in_ok-entries.ensures.lookup.0 in
    let some : 1 ≤ c.args.place.left = omega (arith, c.if-place-lt1.false) in
    let there = pair_there c.args.bytes.now c.in_ok-entries.entries.now c.in_ok-key.rest.now c.args.place.at c.args.place.left 4096 (c.in_ok-key.key.now, c.in_ok-key.value.now) c.told-bytes lent.0 lent.2 c.in_ok-key.ensures some in
    (there.2, there.3)
