use Rattle.std.proofs.Common.{◌≡◌, ◌++◌, drop, false}
use Rattle.std.specs.List.{list_any}
use Rattle.host_types.specs.Lines.{is_lf, lines}
use Rattle.host_types.proofs.line_list.lines_of.Given as goal

-- what was cut off, and the lines of what is left, are those of the body; the line that has begun holds no LF
abbrev pub invariant-loop-byte : goal.invariant-loop-byte
invariant-loop-byte l = (l.list ++ lines (l.line.items ++ drop l.byte-index l.body) ≡ lines l.body) × (list_any is_lf l.line.items ≡ false)
