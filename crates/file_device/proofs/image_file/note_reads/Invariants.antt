use Rattle.std.proofs.Common.{◌≡◌, ◌+◌, take}
use Rattle.file_device.specs.FileCalls.{read_calls}
use Rattle.file_device.proofs.image_file.note_reads.Given as goal

-- so many are noted
abbrev pub invariant-loop-bytes : goal.invariant-loop-bytes
invariant-loop-bytes l = (l.n ≡ l.first + l.bytes-index) × (l.made.calls ≡ read_calls l.first (take l.bytes-index l.sectors) l.initial.made.calls)
