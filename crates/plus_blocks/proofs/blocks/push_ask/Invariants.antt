use Rattle.std.proofs.Common.{◌≡◌, ◌++◌, take}
use Rattle.std.specs.Prelude.{flat_map, codes, map}
use Rattle.plus_blocks.specs.Blocks.{block_line, question_line}
use Rattle.plus_blocks.proofs.blocks.push_ask.Given as goal

-- what stands so far
abbrev pub invariant-loop-question : goal.invariant-loop-question
invariant-loop-question l = l.out.items ≡ l.fn.out.items ++ (codes "+ASK:\r\n" ++ flat_map block_line (map question_line (take l.question-index l.questions)))
