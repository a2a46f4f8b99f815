use Rattle.std.proofs.Common.{◌≤◌, arith}
use Rattle.page_store.specs.Heads.{seen_child}
use Rattle.cow_tree.proofs.ChildPlaces.{out_of_page, child_there}
use Rattle.cow_tree.proofs.page_places.child_from.Goals as goal

pub returns-in_err-entries-clause-children : goal.returns-in_err-entries-clause-children
returns-in_err-entries-clause-children c = rw c.from_residual.ensures (out_of_page c.args.bytes.now c.args.place.at c.args.place.left c.in_err-entries.ensures.lookup.0)

pub overflow_sub-behind : goal.overflow_sub-behind
overflow_sub-behind c =
    let lent = c.in_ok-entries.ensures.lookup.0 in
    let some : 1 ≤ c.args.place.left = omega (arith, c.if-place-lt1.false) in
    (child_there c.args.bytes.now c.in_ok-entries.entries.now c.in_ok-key.rest.now c.args.place.at c.args.place.left 4096 (seen_child c.in_ok-key.key.now c.in_ok-key.page) c.told-bytes lent.0 lent.2 c.in_ok-key.ensures some).1

pub returns-clause-children : goal.returns-clause-children
returns-clause-children c =
    let lent = c.in_ok-entries.ensures.lookup.0 in
    let some : 1 ≤ c.args.place.left = omega (arith, c.if-place-lt1.false) in
    (child_there c.args.bytes.now c.in_ok-entries.entries.now c.in_ok-key.rest.now c.args.place.at c.args.place.left 4096 (seen_child c.in_ok-key.key.now c.in_ok-key.page) c.told-bytes lent.0 lent.2 c.in_ok-key.ensures some).0
