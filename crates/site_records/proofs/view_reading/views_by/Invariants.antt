use Rattle.std.proofs.Common.{◌≡◌, ◌-◌, length}
use Rattle.site_records.specs.Field.{times, with_front}
use Rattle.site_records.specs.Reading.{view_at}
use Rattle.site_records.proofs.view_reading.views_by.Given as goal

abbrev pub invariant-loop : goal.invariant-loop
invariant-loop l = (with_front l.views.items (times view_at (l.count - l.counter) l.rest) ≡ times view_at l.count l.bytes) × (length l.views.items ≡ l.counter)
