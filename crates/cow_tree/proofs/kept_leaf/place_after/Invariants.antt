use Rattle.cow_tree.specs.KeptLeaves.{pairs_from, IsWalkedPast}
use Rattle.cow_tree.proofs.kept_leaf.place_after.Given as goal

abbrev pub invariant-loop-here : goal.invariant-loop-here
invariant-loop-here l = IsWalkedPast l.key (pairs_from l.bytes l.place.at l.place.left) (pairs_from l.bytes l.fn.from.at l.fn.from.left)

abbrev pub decreases-loop-here : goal.decreases-loop-here
decreases-loop-here l = l.place.left
