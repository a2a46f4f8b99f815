use Rattle.std.proofs.Common.{◌≡◌, replicate}
use Rattle.sector_device.proofs.mem_disk.zeros.Given as goal

abbrev pub invariant-loop-sector : goal.invariant-loop-sector
invariant-loop-sector l = l.made.items ≡ replicate l._sector (replicate 512 0)
