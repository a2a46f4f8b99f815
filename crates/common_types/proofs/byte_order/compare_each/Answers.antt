use Rattle.std.proofs.Common.{rules, ◌∙◌, arith}
use Rattle.common_types.proofs.ByteOrders.{ended_first, ended_second}
use Rattle.common_types.proofs.byte_order.compare_each.Goals.{in_default, in_default-2}
use Rattle.common_types.proofs.byte_order.compare_each.Goals as goal

pub returns : goal.returns
returns c =
    let left = c.loop-left.left.now in
    let right = c.loop-left.right.now in
    c.cmp-2.ensures ∙ elim c.if-left-lt1.branch [ in_default w ↦ ended_first left right (omega (arith, w.in_default.len_below)) | in_default-2 w ↦ ended_second left right (search rules) ] ∙ c.loop-left.invariant
