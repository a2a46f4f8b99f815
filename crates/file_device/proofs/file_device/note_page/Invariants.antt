use Rattle.std.proofs.Common.{◌≡◌, ◌+◌}
use Rattle.file_device.proofs.file_device.note_page.Given as goal

abbrev pub invariant-loop : goal.invariant-loop
invariant-loop l = l.made.made ≡ record { reads = l.fn.made.made.reads; writes = l.fn.made.made.writes + l.counter; syncs = l.fn.made.made.syncs }
