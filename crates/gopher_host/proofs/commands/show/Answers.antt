use Rattle.std.proofs.Common.{refl}
use Rattle.file_device.specs.FileCalls.{file_state}
use Rattle.image_commands.specs.Faults.{IsReadingFault}
use Rattle.image_commands.specs.Listing.{IsListing}
use Rattle.gopher_host.specs.ImageFiles.{ListsImage, form_of}
use Rattle.gopher_host.proofs.Ended.{err_too, answers, unwritten, read_then}
use Rattle.gopher_host.proofs.commands.show.Goals as goal

pub returns : goal.returns
returns g c =
    let contents = g.W.Write.contents in
    let device = c.in_ok-device.device in
    let handed = c.show_image-shown.result in
    read_then _ _ _ _ _ _ device _ _ (ListsImage (form_of c.args.long) contents c.args.writer.now c.print_listing.new.writer c.print_listing.result) c.in_ok-device.ensures c.closed.ensures.left (
      answers (λ listing. listing.items) handed c.closed.result (λ left text. IsListing (form_of c.args.long) (file_state device).disk.view text) (λ left fault. IsReadingFault (file_state device) (file_state left) fault) contents c.args.writer.now c.print_listing.new.writer c.print_listing.result c.closed.ensures.given c.print_listing.ensures (rw (← c.form_of.ensures) (c.show_image-shown.ensures.shown refl)) (err_too handed (λ e h. h.caused) c.show_image-shown.ensures.refused),
      unwritten IsReadingFault device handed (c.show_image-shown.ensures.at_crash refl) c.show_image-shown.ensures.refused,
    )
