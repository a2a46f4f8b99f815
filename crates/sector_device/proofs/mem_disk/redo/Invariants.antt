use Rattle.std.proofs.Common.{◌≡◌, drop}
use Rattle.sector_device.specs.AfterStop.{done}
use Rattle.sector_device.specs.Calls.{writes_of}
use Rattle.sector_device.proofs.mem_disk.redo.Given as goal

-- the writes that are left lead to where all of them lead
abbrev pub invariant-loop-call : goal.invariant-loop-call
invariant-loop-call l = done (writes_of (drop l.call-index l.calls)) l.sectors ≡ done (writes_of l.calls) l.fn.sectors
