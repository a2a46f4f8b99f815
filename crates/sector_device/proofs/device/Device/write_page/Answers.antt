use Rattle.std.proofs.Common.{subst, arith, ◌∙◌, ◌+◌, ◌*◌, ◌≡◌, ◌<◌, sym, IsTrue, List, ℕ, Ok, length, rules}
use Rattle.std.proofs.lemmas.Grind.{common_steps}
use Rattle.std.proofs.lemmas.Result.{IfOk-from_err}
use Rattle.sector_device.specs.declared.device.DeviceFault.{DeviceFault}
use Rattle.sector_device.specs.Steps.{crash_states_of, Makes, AreWritten, MayBeAllWritten, MayBeWritten, IsWritten, chunk}
use Rattle.sector_device.proofs.SameDevices.{same_after, still_honest}
use Rattle.sector_device.proofs.Works.{exactly_then}
use Rattle.sector_device.proofs.WrittenImages.{write_makes, write_shows, makes_then, more_may, more_is}
use Rattle.sector_device.proofs.WrittenPages.{page-written}
use Rattle.sector_device.proofs.device.Device.write_page.Goals as goal

pub returns-in_err-write-clause-sectors : goal.returns-in_err-write-clause-sectors
returns-in_err-write-clause-sectors g c =
    let d = g.met.Self.Device in
    let state = g.Self.Device.state in
    let now = crash_states_of g.Self.Device.moment g.Self.Device.possible_since in
    let first = 8 * c.args.n in
    let before = c.loop-k.invariant in
    let write = c.write.ensures in
    let outcome = c.in_err-write.ensures.outcome in
    record {
      shows = λ keeps. IfOk-from_err c.from_residual.result _ c.from_residual.ensures.0;
      leaves = λ keeps.
          let honest = still_honest _ _ before.same keeps in
          let room : first + c.loop-k.k < length (state c.loop-k.self).disk.base = omega (arith, d.base_has_size c.loop-k.self honest, before.same.size, c.requires, c.loop-k-test.true) in
          let made : Makes (now c.loop-k.self) (now c.write.new.self) (MayBeWritten (first + c.loop-k.k) c.sector_of-sector.result) =
          write_makes c.write.result (first + c.loop-k.k) c.sector_of-sector.result (state c.loop-k.self).disk (state c.write.new.self).disk _ _ _ _ room (write.written honest) (write.failed honest) (write.time honest)
          (λ i left. d.crash_states_are_images c.write.new.self i (subst IsTrue (sym write.outcome.same.honest) honest) left) (λ i image. d.each_image_is_a_crash_state c.loop-k.self i honest image) in
          let step : Makes (now c.loop-k.self) (now c.write.new.self) (MayBeWritten (first + c.loop-k.k) (chunk c.args.bytes.now c.loop-k.k)) =
          subst (λ (b : List ℕ). Makes (now c.loop-k.self) (now c.write.new.self) (MayBeWritten (first + c.loop-k.k) b)) c.sector_of-sector.ensures made in
          makes_then (now c.args.self.now) (now c.loop-k.self) (now c.write.new.self) (MayBeAllWritten first 8 c.args.bytes.now) (MayBeWritten (first + c.loop-k.k) (chunk c.args.bytes.now c.loop-k.k)) (MayBeAllWritten first 8 c.args.bytes.now)
          (before.leaves keeps) step (λ i j p. p) (λ i j x p q. more_may first 8 c.loop-k.k c.args.bytes.now i j x c.loop-k-test.true p q);
      outcome = record { same = same_after _ _ _ before.same outcome.same; reads = outcome.reads ∙ before.reads; writes = grind (arith, common_steps); fault = search rules };
    }

pub loop-k-preserved : goal.loop-k-preserved
loop-k-preserved g c =
    let d = g.met.Self.Device in
    let state = g.Self.Device.state in
    let now = crash_states_of g.Self.Device.moment g.Self.Device.possible_since in
    let first = 8 * c.args.n in
    let before = c.loop-k.invariant in
    let write = c.write.ensures in
    let outcome = c.in_ok-write.ensures.outcome in
    record {
      same = same_after _ _ _ before.same outcome.same;
      reads = outcome.reads ∙ before.reads;
      writes = outcome.writes ∙ before.writes;
      work = exactly_then before.work c.write.ensures.work;
      shows = λ keeps.
          let honest = still_honest _ _ before.same keeps in
          let room : first + c.loop-k.k < length (state c.loop-k.self).disk.view = omega (arith, (d.view_is_image c.loop-k.self honest).size, d.base_has_size c.loop-k.self honest, before.same.size, c.requires, c.loop-k-test.true) in
          let shown : IsWritten (first + c.loop-k.k) c.sector_of-sector.result (state c.loop-k.self).disk.view (state c.write.new.self).disk.view =
          write_shows {E = DeviceFault} (Ok c.in_ok-write.field-0) (first + c.loop-k.k) c.sector_of-sector.result (state c.loop-k.self).disk (state c.write.new.self).disk room (c.in_ok-write.ensures.written honest) in
          let step = subst (λ (b : List ℕ). IsWritten (first + c.loop-k.k) b (state c.loop-k.self).disk.view (state c.write.new.self).disk.view) c.sector_of-sector.ensures shown in
          more_is first c.loop-k.k c.args.bytes.now _ _ _ (before.shows keeps) step;
      leaves = λ keeps.
          let honest = still_honest _ _ before.same keeps in
          let room : first + c.loop-k.k < length (state c.loop-k.self).disk.base = omega (arith, d.base_has_size c.loop-k.self honest, before.same.size, c.requires, c.loop-k-test.true) in
          let made : Makes (now c.loop-k.self) (now c.write.new.self) (MayBeWritten (first + c.loop-k.k) c.sector_of-sector.result) =
          write_makes c.write.result (first + c.loop-k.k) c.sector_of-sector.result (state c.loop-k.self).disk (state c.write.new.self).disk _ _ _ _ room (write.written honest) (write.failed honest) (write.time honest)
          (λ i left. d.crash_states_are_images c.write.new.self i (subst IsTrue (sym write.outcome.same.honest) honest) left) (λ i image. d.each_image_is_a_crash_state c.loop-k.self i honest image) in
          let step : Makes (now c.loop-k.self) (now c.write.new.self) (MayBeWritten (first + c.loop-k.k) (chunk c.args.bytes.now c.loop-k.k)) =
          subst (λ (b : List ℕ). Makes (now c.loop-k.self) (now c.write.new.self) (MayBeWritten (first + c.loop-k.k) b)) c.sector_of-sector.ensures made in
          makes_then (now c.args.self.now) (now c.loop-k.self) (now c.write.new.self) (MayBeAllWritten first 8 c.args.bytes.now) (MayBeWritten (first + c.loop-k.k) (chunk c.args.bytes.now c.loop-k.k)) (MayBeAllWritten first 8 c.args.bytes.now)
          (before.leaves keeps) step (λ i j p. p) (λ i j x p q. more_may first 8 c.loop-k.k c.args.bytes.now i j x c.loop-k-test.true p q);
    }

pub returns-clause-page : goal.returns-clause-page
returns-clause-page g c =
    λ keeps.
    let is : c.loop-k.k ≡ 8 = omega (arith, c.loop-k-test.false) in
    page-written c.args.n c.args.bytes.now (g.Self.Device.state c.args.self.now).disk.view (g.Self.Device.state c.loop-k.self).disk.view c.told-bytes
    (subst (λ (k : ℕ). AreWritten (8 * c.args.n) k c.args.bytes.now (g.Self.Device.state c.args.self.now).disk.view (g.Self.Device.state c.loop-k.self).disk.view) is (c.loop-k.invariant.shows keeps))
