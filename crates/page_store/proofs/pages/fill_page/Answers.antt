use Rattle.std.proofs.Common.{◌≡◌, ◌+◌, ◌*◌, ◌++◌, ℕ, List, IsTrue, length, take, sym, subst, ap, ◌∙◌, arith}
use Rattle.std.proofs.lemmas.List.{take_all}
use Rattle.std.proofs.lemmas.Slice.{take-put_mid}
use Rattle.sector_device.proofs.Works.{exactly_then, at_most, no_more_than, if_err}
use Rattle.sector_device.specs.Effects.{MadeExactly}
use Rattle.page_store.specs.Sectors.{Image, sector, sectors_from, page_of}
use Rattle.page_store.proofs.DeviceSequences.{then_read}
use Rattle.page_store.proofs.SectorRows.{sectors_from_push, length-over}
use Rattle.page_store.proofs.pages.fill_page.Goals as goal

pub loop-part-preserved : goal.loop-part-preserved
loop-part-preserved g c =
    let k = c.loop-part.part in
    record {
      device = then_read c.loop-part.invariant.device c.read_sector.ensures.sector;
      reads = c.in_ok-read_sector.ensures.sector.outcome.reads ∙ c.loop-part.invariant.reads;
      work = exactly_then c.loop-part.invariant.work c.read_sector.ensures.work;
      front = λ keeps.
          let same : (g.D.Device.state c.loop-part.device).disk ≡ (g.D.Device.state c.args.device.now).disk = c.loop-part.invariant.device.only.disk keeps in
          let read = c.in_ok-read_sector.ensures.sector.gives (subst IsTrue (sym c.loop-part.invariant.device.only.same.honest) keeps) in
          let view : Image = (g.D.Device.state c.args.device.now).disk.view in
          let is : sector view (8 * c.args.page + k) ≡ c.copy_from_slice.new.self = cc (read, same, c.copy_from_slice.ensures.after) in
          let long = c.loop-part.invariant.long in
          let lt = c.loop-part-test.true in
          let size : length c.copy_from_slice.new.self ≡ 512 = ap length c.copy_from_slice.ensures.after ∙ c.read_sector.array_long in
          take-put_mid (512 * k) _ c.loop-part.bytes c.copy_from_slice.new.self (512 * (k + 1)) (omega (arith, size)) (omega (arith, long, lt))
          ∙ subst (λ (x : List ℕ). take (512 * k) c.loop-part.bytes ++ x ≡ sectors_from view (8 * c.args.page) (k + 1)) is (ap (λ (x : List ℕ). x ++ sector view (8 * c.args.page + k)) (c.loop-part.invariant.front keeps) ∙ sym (sectors_from_push view k (8 * c.args.page)));
      long = length-over (512 * k) _ c.loop-part.bytes c.copy_from_slice.new.self (omega (arith, c.loop-part.invariant.long, c.loop-part-test.true)) (let size : length c.copy_from_slice.new.self ≡ 512 = ap length c.copy_from_slice.ensures.after ∙ c.read_sector.array_long in omega (arith, size)) ∙ c.loop-part.invariant.long;
    }

pub returns : goal.returns
unfolding page_of
returns g c =
    let is : c.loop-part.part ≡ 8 = omega (arith, c.loop-part-test.false) in
    record {
      page = record {
        gives = λ keeps. sym (subst (λ (n : ℕ). take (512 * n) c.loop-part.bytes ≡ sectors_from (g.D.Device.state c.args.device.now).disk.view (8 * c.args.page) n) is (c.loop-part.invariant.front keeps)) ∙ take_all 4096 c.loop-part.bytes (omega (arith, c.loop-part.invariant.long));
        outcome = record { only = c.loop-part.invariant.device.only; reads = c.loop-part.invariant.reads; fault = tt };
        no_new_crash_state = c.loop-part.invariant.device.no_new_crash_state;
      };
      work = subst (λ (n : ℕ). MadeExactly n 0 0 (g.D.Device.state c.args.device.now) (g.D.Device.state c.loop-part.device)) is c.loop-part.invariant.work;
    }

pub returns-in_err-read_sector-clause-work : goal.returns-in_err-read_sector-clause-work
returns-in_err-read_sector-clause-work g c =
    if_err c.from_residual.result c.from_residual.ensures.0 (no_more_than (at_most (exactly_then c.loop-part.invariant.work c.read_sector.ensures.work)) (omega (arith, c.loop-part-test.true)) (omega arith) (omega arith))
