use Rattle.std.proofs.Common.{arith}
use Rattle.sector_device.specs.declared.call.Call.TheVariants.{Sync}
use Rattle.sector_device.proofs.ReadBack.{kept_sync}
use Rattle.sector_device.proofs.Time.{elapses_to, replayed, not_synced}
use Rattle.sector_device.proofs.mem_disk.MemDiskDevice.sync.Goals as goal

pub invariant_of-self : goal.invariant_of-self
invariant_of-self c =
    let m = c.self.inside in
    kept_sync m.first.items m.writes_and_syncs.items _ m.synced _ m.view.items c.self.invariant c.in-Ok.ensures.items (omega (arith, c.len-taken.ensures, c.push.new.self.ok.0))

pub returns-in-Ok-clause-synced : goal.returns-in-Ok-clause-synced
returns-in-Ok-clause-synced c =
    let m = c.self.inside in
    λ honest. rw (← c.self.view_is) (replayed m.first.items m.writes_and_syncs.items _ Sync c.in-Ok.ensures.items)

pub returns-in-Ok-clause-time : goal.returns-in-Ok-clause-time
returns-in-Ok-clause-time c =
    let m = c.self.inside in
    λ honest. rw (← c.self.view_is) (elapses_to m.first.items m.writes_and_syncs.items _ Sync c.in-Ok.ensures.items)

pub returns-in-Err-clause-failed : goal.returns-in-Err-clause-failed
returns-in-Err-clause-failed c =
    let m = c.self.inside in
    λ honest. rw (← c.self.view_is) (not_synced m.first.items m.writes_and_syncs.items _ c.in-Err.ensures.items)
