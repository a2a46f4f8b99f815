use Rattle.std.proofs.Common.{◌≡◌, ◌++◌, take}
use Rattle.std.specs.Prelude.{flat_map}
use Rattle.plus_blocks.specs.Blocks.{text_head}
use Rattle.plus_blocks.proofs.item.entry_attributes.Given as goal

-- what stands so far
abbrev pub invariant-loop-of_entry : goal.invariant-loop-of_entry
invariant-loop-of_entry l = l.out.items ≡ text_head ++ flat_map (λ of_entry. of_entry) (take l.of_entry-index l.blocks)
