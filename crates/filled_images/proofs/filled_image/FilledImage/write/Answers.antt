use Rattle.std.proofs.Common.{◌≡◌, ◌≤◌, ◌*◌, length, ap, ◌∙◌, arith}
use Rattle.page_store.specs.declared.slot.Slot.{Slot}
use Rattle.sector_device.proofs.Works.{no_calls, at_most, no_more_than}
use Rattle.filled_images.proofs.FirstFilled.{has_filled, pages_counted}
use Rattle.filled_images.proofs.filled_image.FilledImage.write.Goals as goal

pub returns-in-Ok-clause-written : goal.returns-in-Ok-clause-written
returns-in-Ok-clause-written g c = λ keeps count free banner pairs map few version made free_is.
    let d = g.met.D.Device in
    let device = c.args.device.now in
    let image = c.args.self.now in
    let old = (g.D.Device.state device).disk.view in
    let size : length old ≡ (g.D.Device.state device).size = (d.view_is_image device keeps).size ∙ d.base_has_size device keeps in
    let pages : image.slot.root.pages ≡ count = ap (λ (s : Slot). s.root.pages) made.slot_is in
    let room : 8 * image.slot.root.pages ≤ (g.D.Device.state device).size = omega (arith, c.if-from-sectors.false, c.from.ensures, c.sectors.ensures) in
    has_filled count free banner pairs image old (g.D.Device.state c.write_all.new.device).disk.view map few version (let a = image.least in omega (arith, a, pages)) (let a = image.most in omega (arith, a, pages)) (omega (arith, room, size, pages)) made free_is (c.in-Ok.ensures.written keeps).0

pub returns-in-Ok-clause-sure : goal.returns-in-Ok-clause-sure
returns-in-Ok-clause-sure g c = λ keeps. (c.in-Ok.ensures.written keeps).1

pub returns-then-from-sectors-clause-fault : goal.returns-then-from-sectors-clause-fault
returns-then-from-sectors-clause-fault g c = λ count banner pairs made.
    let pages = ap (λ (s : Slot). s.root.pages) made.slot_is in
    omega (arith, c.if-from-sectors.true, c.from.ensures, c.sectors.ensures, pages)

pub returns-in-Err-clause-fault : goal.returns-in-Err-clause-fault
returns-in-Err-clause-fault g c = λ count banner pairs made. (c.in-Err.ensures.outcome.reads, c.in-Err.ensures.outcome.writes)

pub returns-then-from-sectors-clause-work : goal.returns-then-from-sectors-clause-work
returns-then-from-sectors-clause-work g c = λ count banner pairs made. no_more_than (at_most (no_calls (g.D.Device.state c.args.device.now))) (omega arith) (omega arith) (omega arith)

pub returns-in-Ok-clause-work : goal.returns-in-Ok-clause-work
returns-in-Ok-clause-work g c = λ count banner pairs made.
    let image = c.args.self.now in
    let many = pages_counted pairs image.pages.items image.slot.root.tree made.tree in
    let is = c.in-Ok.ensures.work in
    record { reads = is.reads; writes = omega (arith, is.writes, many); syncs = is.syncs }

pub returns-in-Err-clause-work : goal.returns-in-Err-clause-work
returns-in-Err-clause-work g c = λ count banner pairs made.
    let image = c.args.self.now in
    let many = pages_counted pairs image.pages.items image.slot.root.tree made.tree in
    no_more_than c.in-Err.ensures.work (omega arith) (omega (arith, many)) (omega arith)
