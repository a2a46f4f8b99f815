use Rattle.std.proofs.Common.{◌≡◌, ◌*◌, List, length}
use Rattle.file_device.specs.FileCalls.{disk_of, page_calls}
use Rattle.file_device.specs.declared.file_call.FileCall.{FileCall}
use Rattle.file_device.specs.declared.file_call.FileCall.TheVariants.{Write}
use Rattle.file_device.proofs.file_device.put_page.Given as goal

abbrev pub invariant-loop-k : goal.invariant-loop-k
invariant-loop-k l = record {
  size : length l.sectors.items ≡ length l.fn.sectors.items;
  set : (calls : List FileCall) → l.fn.sectors.items ≡ (disk_of calls).view → l.sectors.items ≡ (disk_of (page_calls Write (8 * l.n) l.bytes l.k calls)).view;
}
