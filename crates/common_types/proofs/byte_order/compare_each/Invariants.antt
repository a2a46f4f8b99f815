use Rattle.std.proofs.Common.{◌≡◌, length}
use Rattle.common_types.specs.ByteOrder.{byte_cmp}
use Rattle.common_types.proofs.byte_order.compare_each.Given as goal

-- what is left is in the order of the whole
abbrev pub invariant-loop-left : goal.invariant-loop-left
invariant-loop-left l = byte_cmp l.left l.right ≡ byte_cmp l.fn.one l.fn.other

abbrev pub decreases-loop-left : goal.decreases-loop-left
decreases-loop-left l = length l.left
