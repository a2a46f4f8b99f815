use Rattle.std.proofs.Common.{ap, sym, ◌∙◌}
use Rattle.file_device.specs.FileCalls.{noted_page}
use Rattle.file_device.proofs.image_file.ImageFile.write_page.Goals as goal

pub returns-in-Ok : goal.returns-in-Ok
returns-in-Ok c = c.note_written.ensures ∙ sym (ap (λ r. noted_page r c.args.n c.args.bytes.now c.args.self.now.made.calls) c.in-Ok.is)

pub returns-in-Err : goal.returns-in-Err
returns-in-Err c = c.note_failed.ensures ∙ sym (ap (λ r. noted_page r c.args.n c.args.bytes.now c.args.self.now.made.calls) c.in-Err.is)
