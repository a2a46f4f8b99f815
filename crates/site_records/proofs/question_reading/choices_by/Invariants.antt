use Rattle.std.proofs.Common.{◌≡◌, ◌-◌, length}
use Rattle.site_records.specs.Field.{times, with_front}
use Rattle.site_records.specs.Reading.{answer_at}
use Rattle.site_records.proofs.question_reading.choices_by.Given as goal

abbrev pub invariant-loop : goal.invariant-loop
invariant-loop l = (with_front l.choices.items (times answer_at (l.count - l.counter) l.rest) ≡ times answer_at l.count l.bytes) × (length l.choices.items ≡ l.counter)
