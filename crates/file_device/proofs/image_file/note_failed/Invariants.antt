use Rattle.std.proofs.Common.{◌≡◌, ◌*◌}
use Rattle.file_device.specs.FileCalls.{page_calls}
use Rattle.file_device.specs.declared.file_call.FileCall.TheVariants.{FailedWrite}
use Rattle.file_device.proofs.image_file.note_failed.Given as goal

abbrev pub invariant-loop-k : goal.invariant-loop-k
invariant-loop-k l = l.made.calls ≡ page_calls FailedWrite (8 * l.n) l.bytes l.k l.fn.made.calls
