use Rattle.std.proofs.Common.{◌≡◌, ◌++◌}
use Rattle.folder_reader.proofs.walking.add_below.Given as goal

abbrev pub invariant-loop-one : goal.invariant-loop-one
invariant-loop-one l = l.left.items ≡ l.fn.left.items ++ l.yielded
