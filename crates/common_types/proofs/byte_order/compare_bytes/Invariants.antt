use Rattle.std.proofs.Common.{◌≡◌, length}
use Rattle.common_types.specs.ByteOrder.{byte_cmp}
use Rattle.common_types.proofs.byte_order.compare_bytes.Given as goal

-- what is left is in the order of the whole
abbrev pub invariant-loop-first : goal.invariant-loop-first
invariant-loop-first l = byte_cmp l.left l.right ≡ byte_cmp l.fn.one l.fn.other

abbrev pub decreases-loop-first : goal.decreases-loop-first
decreases-loop-first l = length l.left
