use Rattle.std.proofs.Common.{◌≡◌, ◌≤◌, drop}
use Rattle.sector_device.specs.AfterStop.{done_where}
use Rattle.sector_device.specs.Calls.{writes_of}
use Rattle.sector_device.proofs.mem_disk.redo_picked.Given as goal

-- the writes that are left lead to where all of them lead
abbrev pub invariant-loop-write : goal.invariant-loop-write
invariant-loop-write l = record {
  within : l.place ≤ l.write-index;
  ahead : done_where l.picks l.place (writes_of (drop l.write-index l.calls)) l.sectors ≡ done_where l.picks 0 (writes_of l.calls) l.fn.sectors;
}
