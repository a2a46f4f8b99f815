use Rattle.std.proofs.Common.{◌≡◌, ◌-◌, is_some}
use Rattle.site_records.specs.Field.{until_end}
use Rattle.site_records.specs.Reading.{question_at}
use Rattle.site_records.proofs.question_reading.lacking.Given as goal

abbrev pub invariant-loop : goal.invariant-loop
invariant-loop l = is_some (until_end question_at (l.most - l.counter) l.rest) ≡ is_some (until_end question_at l.most l.bytes)
