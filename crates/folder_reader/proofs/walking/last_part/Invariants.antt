use Rattle.std.proofs.Common.{◌≡◌, length}
use Rattle.folder_reader.specs.Walked.{last_part}
use Rattle.folder_reader.proofs.walking.last_part.Given as goal

abbrev pub invariant-loop-left : goal.invariant-loop-left
invariant-loop-left l = last_part l.last l.left ≡ last_part l.bytes l.bytes

abbrev pub decreases-loop-left : goal.decreases-loop-left
decreases-loop-left l = length l.left
