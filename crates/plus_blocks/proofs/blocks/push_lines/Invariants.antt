use Rattle.std.proofs.Common.{◌≡◌, ◌++◌, take}
use Rattle.std.specs.Prelude.{flat_map}
use Rattle.plus_blocks.specs.Blocks.{block_line}
use Rattle.plus_blocks.proofs.blocks.push_lines.Given as goal

-- what stands so far
abbrev pub invariant-loop-line : goal.invariant-loop-line
invariant-loop-line l = l.out.items ≡ l.fn.out.items ++ flat_map block_line (take l.line-index l.lines)
