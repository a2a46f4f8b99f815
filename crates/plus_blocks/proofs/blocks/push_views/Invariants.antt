use Rattle.std.proofs.Common.{◌≡◌, ◌++◌, take}
use Rattle.std.specs.Prelude.{flat_map, codes, map}
use Rattle.plus_blocks.specs.Blocks.{block_line, view_line}
use Rattle.plus_blocks.proofs.blocks.push_views.Given as goal

-- what stands so far
abbrev pub invariant-loop-view : goal.invariant-loop-view
invariant-loop-view l = l.out.items ≡ l.fn.out.items ++ (codes "+VIEWS:\r\n" ++ flat_map block_line (map view_line (take l.view-index l.views)))
