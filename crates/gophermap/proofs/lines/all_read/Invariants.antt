use Rattle.std.proofs.Common.{◌≡◌, length}
use Rattle.std.specs.List.{list_all}
use Rattle.gophermap.specs.Laws.{all_read, is_read}
use Rattle.gophermap.proofs.lines.all_read.Given as goal

abbrev pub invariant-loop-line : goal.invariant-loop-line
invariant-loop-line l = list_all is_read l.lines ≡ all_read l.fn.file

abbrev pub decreases-loop-line : goal.decreases-loop-line
decreases-loop-line l = length l.lines
