use Rattle.std.proofs.Common.{◌≡◌, map, take}
use Rattle.request_reader.specs.DataLines.{unstuffed}
use Rattle.request_reader.proofs.data.all_unstuffed.Given as goal

abbrev pub invariant-loop-line : goal.invariant-loop-line
invariant-loop-line l = l.list ≡ map unstuffed (take l.line-index l.lines)
