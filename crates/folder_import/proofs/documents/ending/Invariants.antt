use Rattle.std.proofs.Common.{◌≡◌, length}
use Rattle.folder_import.specs.Formats.{ending}
use Rattle.folder_import.proofs.Parts.{found_or}
use Rattle.folder_import.proofs.documents.ending.Given as goal

abbrev pub invariant-loop-left : goal.invariant-loop-left
invariant-loop-left l = ending l.name ≡ found_or l.ending l.left

abbrev pub decreases-loop-left : goal.decreases-loop-left
decreases-loop-left l = length l.left
