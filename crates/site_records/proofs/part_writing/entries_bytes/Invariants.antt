use Rattle.std.proofs.Common.{◌≡◌, ◌≤◌, ◌*◌, take, length}
use Rattle.site_records.specs.Records.{entries_bytes}
use Rattle.site_records.proofs.part_writing.entries_bytes.Given as goal

abbrev pub invariant-loop-entry : goal.invariant-loop-entry
invariant-loop-entry l = (l.out.items ≡ entries_bytes (take l.entry-index l.entries)) × (length l.out.items ≤ 431 * l.entry-index)
