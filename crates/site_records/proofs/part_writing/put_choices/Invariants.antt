use Rattle.std.proofs.Common.{◌≡◌, ◌≤◌, ◌*◌, ◌+◌, ◌++◌, take, length}
use Rattle.site_records.specs.Records.{choice_list}
use Rattle.site_records.proofs.part_writing.put_choices.Given as goal

abbrev pub invariant-loop-choice : goal.invariant-loop-choice
invariant-loop-choice l = (l.out.items ≡ l.fn.out.items ++ choice_list (take l.choice-index l.choices)) × (length l.out.items ≤ length l.fn.out.items + 41 * l.choice-index)
