use Rattle.std.proofs.Common.{◌+◌, refl, ap, ◌∙◌}
use Rattle.sector_device.specs.Fuse.{at_most_greatest}
use Rattle.sector_device.proofs.Fused.{one_refused, both_count, one_read}
use Rattle.sector_device.proofs.once_disk.OnceDiskDevice.read.Goals as goal

pub returns-then-is_the_one-clause-outcome : goal.returns-then-is_the_one-clause-outcome
returns-then-is_the_one-clause-outcome g c =
    let fuse = c.args.self.now in
    let inside = (g.D.Device.state fuse.inner).failed_reads in
    record {
      only = record { same = record { size = refl; honest = refl }; disk = λ honest. refl; writes = refl; made = (let m = one_read _ _ c.note.ensures in record { reads = m.0; writes = m.1; syncs = m.2 }) };
      reads = ap (λ n. at_most_greatest (inside + n)) c.counted.ensures.next ∙ one_refused inside fuse.failed_reads;
      fault = c.counted.ensures.fault;
    }

pub returns-clause-outcome : goal.returns-clause-outcome
returns-clause-outcome g c =
    let fuse = c.args.self.now in
    let outcome = c.read.ensures.outcome in
    record {
      only = record {
        same = record { size = outcome.only.same.size; honest = outcome.only.same.honest };
        disk = outcome.only.disk;
        writes = ap (λ n. at_most_greatest (n + fuse.failed_writes)) outcome.only.writes;
        made = (let m = one_read _ _ c.note.ensures in record { reads = m.0; writes = m.1; syncs = m.2 });
      };
      reads = both_count c.read.result (g.D.Device.state fuse.inner).failed_reads (g.D.Device.state c.read.new.self).failed_reads fuse.failed_reads outcome.reads;
      fault = outcome.fault;
    }
