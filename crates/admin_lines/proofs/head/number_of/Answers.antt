use Rattle.std.proofs.Common.{◌≤◌, ◌<◌, length, arith}
use Rattle.admin_lines.proofs.Digits.{at_most, next_fits}
use Rattle.admin_lines.proofs.head.number_of.Goals as goal

pub overflow_mul-number : goal.overflow_mul-number
overflow_mul-number c =
    let few : length c.args.digits.now ≤ 19 = at_most c.args.digits.now c.requires in
    let next = next_fits c.loop-digit.number c.loop-digit.digit-index c.loop-digit.invariant.below (omega arith) in
    omega (arith, next)

pub overflow_add-number : goal.overflow_add-number
overflow_add-number c =
    let few : length c.args.digits.now ≤ 19 = at_most c.args.digits.now c.requires in
    let next = next_fits c.loop-digit.number c.loop-digit.digit-index c.loop-digit.invariant.below (omega arith) in
    omega (arith, next)
