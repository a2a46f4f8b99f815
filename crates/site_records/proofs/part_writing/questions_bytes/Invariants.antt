use Rattle.std.proofs.Common.{◌≡◌, ◌≤◌, ◌*◌, take, length}
use Rattle.site_records.specs.Records.{questions_bytes}
use Rattle.site_records.proofs.part_writing.questions_bytes.Given as goal

abbrev pub invariant-loop-question : goal.invariant-loop-question
invariant-loop-question l = (l.out.items ≡ questions_bytes (take l.question-index l.questions)) × (length l.out.items ≤ 482 * l.question-index)
