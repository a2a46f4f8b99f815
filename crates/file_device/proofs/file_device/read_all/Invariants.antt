use Rattle.std.proofs.Common.{◌≡◌, ◌-◌, ◌≤◌, length}
use Rattle.file_device.specs.FileCalls.{disk_of}
use Rattle.file_device.specs.Opening.{AreRead}
use Rattle.file_device.proofs.file_device.read_all.Given as goal

-- so many sectors were read, and they are what is shown
abbrev pub invariant-loop-n : goal.invariant-loop-n
invariant-loop-n l = (l.n ≤ l.sectors) × AreRead l.n l.fn.file.made.calls l.file.made.calls × (l.view.items ≡ (disk_of l.file.made.calls).view) × (length l.piece.items ≡ 2048)

abbrev pub decreases-loop-n : goal.decreases-loop-n
decreases-loop-n l = l.sectors - l.n
