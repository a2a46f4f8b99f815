use Rattle.std.proofs.Common.{ℕ, length, sym, ap, subst, ◌∙◌, refl}
use Rattle.host_on_disk.proofs.Images.{kept_stands, one_site}
use Rattle.image_copies.specs.CopyFaults.{of_new, IsNotCopiedWhole}
use Rattle.image_copies.specs.CopyLines.{copied_line}
use Rattle.image_copies.proofs.Plans.{not_written, opened_version}
use Rattle.image_copies.proofs.site_copy.SiteCopy.write.Goals as goal

pub returns-in-Err-clause-fault : goal.returns-in-Err-clause-fault
returns-in-Err-clause-fault g c = λ s count copy. (refl, refl)

pub returns-in-Err-write-clause-fault : goal.returns-in-Err-write-clause-fault
returns-in-Err-write-clause-fault g c = λ s count copy.
    let state = g.D.Device.state in
    subst (λ f. IsNotCopiedWhole count (state c.args.device.now) (state c.write.new.device) f) (sym c.of_new.ensures)
    (not_written count (state c.args.device.now) (state c.write.new.device) c.in-Err-write.fault (λ ne. ap (λ d. state d) (c.in-Err-write.ensures.unwritten ne)) (c.in-Err-write.ensures.fault count copy.banner copy.pairs copy.image))

pub returns-in-Err-write-clause-unwritten : goal.returns-in-Err-write-clause-unwritten
returns-in-Err-write-clause-unwritten g c = λ ne. c.in-Err-write.ensures.unwritten (λ e. ne (c.of_new.ensures ∙ ap of_new e))

pub returns-clause-copied : goal.returns-clause-copied
returns-clause-copied g c = λ honest s count copy.
    let image = (g.D.Device.state c.write.new.device).disk.view in
    let version = opened_version copy.banner copy.shows.version in
    let free = c.free.ensures count copy.banner copy.pairs copy.image in
    let has = c.in-Ok-write.ensures.written honest count c.free.result copy.banner copy.pairs copy.map copy.few version copy.image free in
    let stands = kept_stands image copy.pairs copy.banner s has.content version copy.shows in
    record {
      stands = stands;
      alone = λ t other. one_site image t s other stands;
      first = has.first;
      filled = has.filled_is;
      line_is = c.in-Ok.ensures ∙ ap (λ (n : ℕ). copied_line n c.free.result) copy.items ∙ ap (λ (n : ℕ). copied_line (length s.items) n) has.free_is;
    }

pub returns-clause-sure : goal.returns-clause-sure
returns-clause-sure g c = λ honest. c.in-Ok-write.ensures.sure honest
