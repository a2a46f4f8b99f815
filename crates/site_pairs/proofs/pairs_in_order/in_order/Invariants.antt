use Rattle.std.proofs.Common.{◌≡◌, length}
use Rattle.site_records.specs.Layout.{in_order}
use Rattle.site_pairs.specs.PairsInOrder.{onto}
use Rattle.site_pairs.proofs.pairs_in_order.in_order.Given as goal

-- with the pairs that are left, all are there
abbrev pub invariant-loop-key : goal.invariant-loop-key
invariant-loop-key l = onto l.rest.items l.all.entries ≡ in_order l.fn.pairs.items

abbrev pub decreases-loop-key : goal.decreases-loop-key
decreases-loop-key l = length l.rest.items
