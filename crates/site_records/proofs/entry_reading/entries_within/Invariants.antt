use Rattle.std.proofs.Common.{◌≡◌, ◌-◌}
use Rattle.site_records.specs.Field.{until_end, with_all}
use Rattle.site_records.specs.Reading.{entry_at}
use Rattle.site_records.proofs.entry_reading.entries_within.Given as goal

abbrev pub invariant-loop-count : goal.invariant-loop-count
invariant-loop-count l = with_all l.entries.items (until_end entry_at (l.most - l.count) l.rest) ≡ until_end entry_at l.most l.bytes
