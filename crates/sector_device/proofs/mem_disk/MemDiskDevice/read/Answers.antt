use Rattle.std.proofs.Common.{length, ap, arith}
use Rattle.sector_device.specs.Calls.{History}
use Rattle.sector_device.proofs.ReadBack.{as_many, read_of}
use Rattle.sector_device.proofs.mem_disk.MemDiskDevice.read.Goals as goal

pub index-requires : goal.index-requires
index-requires c =
    let m = c.self.inside in
    omega (arith, as_many m.first.items m.writes_and_syncs.items m.synced m.view.items c.self.invariant, ap (λ (h : History). length h.first) c.self.view_is, m.view.ok.0, c.requires)

pub returns-clause-read : goal.returns-clause-read
returns-clause-read c =
    let m = c.self.inside in
    λ honest. rw (← c.self.view_is) (read_of m.first.items m.writes_and_syncs.items m.synced m.view.items c.args.n _ c.self.invariant (omega (arith, ap (λ (h : History). length h.first) c.self.view_is, c.requires)) c.index.ensures)
