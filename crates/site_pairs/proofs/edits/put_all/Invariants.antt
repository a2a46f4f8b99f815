use Rattle.std.proofs.Common.{◌≡◌, length}
use Rattle.site_pairs.specs.Edits.{with_all}
use Rattle.site_pairs.proofs.edits.put_all.Given as goal

-- what is left to do makes the same
abbrev pub invariant-loop-key : goal.invariant-loop-key
invariant-loop-key l = with_all l.edits.entries l.rest.items ≡ with_all l.fn.edits.entries l.fn.pairs.items

abbrev pub decreases-loop-key : goal.decreases-loop-key
decreases-loop-key l = length l.rest.items
