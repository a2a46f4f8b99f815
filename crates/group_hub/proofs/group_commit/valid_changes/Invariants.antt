use Rattle.std.proofs.Common.{take}
use Rattle.group_hub.specs.Flushing.{ChangesAreTyped}
use Rattle.group_hub.proofs.group_commit.valid_changes.Given as goal

abbrev pub invariant-loop-change : goal.invariant-loop-change
invariant-loop-change l = ChangesAreTyped (take l.change-index l.changes)
