use Rattle.std.proofs.Common.{length, ap, arith}
use Rattle.sector_device.specs.Calls.{History}
use Rattle.sector_device.specs.declared.call.Call.TheVariants.{Write}
use Rattle.sector_device.proofs.ReadBack.{as_many, kept_write}
use Rattle.sector_device.proofs.Time.{elapses_to, replayed}
use Rattle.sector_device.proofs.mem_disk.MemDiskDevice.write.Goals as goal

pub index_mut-requires : goal.index_mut-requires
index_mut-requires c =
    let m = c.self.inside in
    omega (arith, as_many m.first.items m.writes_and_syncs.items m.synced m.view.items c.self.invariant, ap (λ (h : History). length h.first) c.self.view_is, m.view.ok.0, c.requires)

pub invariant_of-self : goal.invariant_of-self
invariant_of-self c =
    let m = c.self.inside in
    kept_write m.first.items m.writes_and_syncs.items _ m.synced m.view.items c.args.n c.args.bytes.now c.self.invariant c.in-Ok.ensures.items

pub returns-in-Ok-clause-written : goal.returns-in-Ok-clause-written
returns-in-Ok-clause-written c =
    let m = c.self.inside in
    λ honest. rw (← c.self.view_is) (replayed m.first.items m.writes_and_syncs.items _ (Write c.args.n c.args.bytes.now) c.in-Ok.ensures.items)

pub returns-in-Ok-clause-time : goal.returns-in-Ok-clause-time
returns-in-Ok-clause-time c =
    let m = c.self.inside in
    λ honest. rw (← c.self.view_is) (elapses_to m.first.items m.writes_and_syncs.items _ (Write c.args.n c.args.bytes.now) c.in-Ok.ensures.items)
