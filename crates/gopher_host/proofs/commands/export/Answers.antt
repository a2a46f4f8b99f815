use Rattle.std.proofs.Common.{refl}
use Rattle.file_device.specs.FileCalls.{file_state}
use Rattle.image_commands.specs.Faults.{IsReadingFault}
use Rattle.image_exports.specs.Exports.{IsExported}
use Rattle.gopher_host.specs.ImageFiles.{Exports}
use Rattle.gopher_host.proofs.Ended.{err_too, answers, unwritten, read_then}
use Rattle.gopher_host.proofs.commands.export.Goals as goal

pub returns : goal.returns
returns g c =
    let contents = g.W.Write.contents in
    let device = c.in_ok-device.device in
    let handed = c.export_image-exported.result in
    read_then _ _ _ _ _ _ device _ _ (Exports contents c.args.writer.now c.print_listing.new.writer c.print_listing.result) c.in_ok-device.ensures c.closed.ensures.left (
      answers (λ listing. listing.items) handed c.closed.result (λ left text. IsExported (file_state device).disk.view text) (λ left fault. IsReadingFault (file_state device) (file_state left) fault) contents c.args.writer.now c.print_listing.new.writer c.print_listing.result c.closed.ensures.given c.print_listing.ensures (c.export_image-exported.ensures.exported refl) (err_too handed (λ e h. h.caused) c.export_image-exported.ensures.refused),
      unwritten IsReadingFault device handed (c.export_image-exported.ensures.at_crash refl) c.export_image-exported.ensures.refused,
    )
