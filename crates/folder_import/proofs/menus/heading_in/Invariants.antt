use Rattle.std.proofs.Common.{◌≡◌, length}
use Rattle.gophermap.specs.Line.{lines_of}
use Rattle.folder_import.specs.Menus.{heading_in}
use Rattle.folder_import.proofs.menus.heading_in.Given as goal

abbrev pub invariant-loop-line : goal.invariant-loop-line
invariant-loop-line l = heading_in l.lines ≡ heading_in (lines_of l.bytes)

abbrev pub decreases-loop-line : goal.decreases-loop-line
decreases-loop-line l = length l.lines
