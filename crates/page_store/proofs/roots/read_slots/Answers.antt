use Rattle.std.proofs.Common.{◌≡◌, ℕ, IsTrue, sym, subst, ap, ◌∙◌, arith}
use Rattle.std.proofs.lemmas.List.{length-set}
use Rattle.sector_device.proofs.Works.{exactly_then, at_most, no_more_than, if_err}
use Rattle.sector_device.specs.Effects.{MadeExactly}
use Rattle.page_store.specs.Sectors.{sector}
use Rattle.page_store.proofs.DeviceSequences.{then_read}
use Rattle.page_store.proofs.SectorRows.{more_sectors}
use Rattle.sector_device.specs.Disk.{Disk}
use Rattle.page_store.proofs.roots.read_slots.Goals as goal

pub loop-n-preserved : goal.loop-n-preserved
loop-n-preserved g c =
    record {
      device = then_read c.loop-n.invariant.device c.read_sector.ensures.sector;
      reads = c.in_ok-read_sector.ensures.sector.outcome.reads ∙ c.loop-n.invariant.reads;
      long = length-set c.loop-n.sectors c.loop-n.n c.read_sector.new.buffer ∙ c.loop-n.invariant.long;
      work = exactly_then c.loop-n.invariant.work c.read_sector.ensures.work;
      front = λ keeps.
          let same : (g.D.Device.state c.loop-n.device).disk ≡ (g.D.Device.state c.args.device.now).disk = c.loop-n.invariant.device.only.disk keeps in
          let read = c.in_ok-read_sector.ensures.sector.gives (subst IsTrue (sym c.loop-n.invariant.device.only.same.honest) keeps) in
          more_sectors (g.D.Device.state c.args.device.now).disk.view c.loop-n.n c.loop-n.sectors c.read_sector.new.buffer (omega (arith, c.loop-n.invariant.long, c.loop-n-test.true)) (c.loop-n.invariant.front keeps) (ap (λ (x : Disk). sector x.view c.loop-n.n) (sym same) ∙ read);
    }

pub returns-in_err-read_sector-clause-work : goal.returns-in_err-read_sector-clause-work
returns-in_err-read_sector-clause-work g c =
    if_err c.from_residual.result c.from_residual.ensures.0 (no_more_than (at_most (exactly_then c.loop-n.invariant.work c.read_sector.ensures.work)) (omega (arith, c.loop-n-test.true)) (omega arith) (omega arith))

pub returns-clause-work : goal.returns-clause-work
returns-clause-work g c =
    let is : c.loop-n.n ≡ 16 = omega (arith, c.loop-n-test.false) in
    subst (λ (n : ℕ). MadeExactly n 0 0 (g.D.Device.state c.args.device.now) (g.D.Device.state c.loop-n.device)) is c.loop-n.invariant.work
