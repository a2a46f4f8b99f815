use Rattle.std.proofs.Common.{◌+◌, refl, ap, ◌∙◌}
use Rattle.sector_device.specs.Fuse.{at_most_greatest}
use Rattle.sector_device.proofs.Fused.{one_refused, both_count}
use Rattle.sector_device.proofs.once_disk.OnceDiskDevice.sync.Goals as goal

pub returns-then-is_the_one-clause-outcome : goal.returns-then-is_the_one-clause-outcome
returns-then-is_the_one-clause-outcome g c =
    let fuse = c.args.self.now in
    let inside = (g.D.Device.state fuse.inner).failed_writes in
    record {
      same = record { size = refl; honest = refl };
      reads = refl;
      writes = ap (λ n. at_most_greatest (inside + n)) c.counted.ensures.next ∙ one_refused inside fuse.failed_writes;
      fault = c.counted.ensures.fault;
    }

pub returns-clause-outcome : goal.returns-clause-outcome
returns-clause-outcome g c =
    let fuse = c.args.self.now in
    let outcome = c.sync.ensures.outcome in
    record {
      same = record { size = outcome.same.size; honest = outcome.same.honest };
      reads = ap (λ n. at_most_greatest (n + fuse.failed_reads)) outcome.reads;
      writes = both_count c.sync.result (g.D.Device.state fuse.inner).failed_writes (g.D.Device.state c.sync.new.self).failed_writes fuse.failed_writes outcome.writes;
      fault = outcome.fault;
    }
