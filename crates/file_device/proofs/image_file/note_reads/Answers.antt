use Rattle.std.proofs.Common.{arith, refl}
use Rattle.std.proofs.lemmas.Grind.{common_steps}
use Rattle.file_device.proofs.Pieces.{noted_on}
use Rattle.file_device.proofs.image_file.note_reads.Goals as goal

pub loop-bytes-preserved : goal.loop-bytes-preserved
loop-bytes-preserved c =
    let so_far = c.loop-bytes.invariant in
    (omega (arith, so_far.0), noted_on c.args.first c.loop-bytes.bytes-index c.loop-bytes.n c.args.sectors.now _ _ c.args.made.now.calls c.loop-bytes.made.calls c.note.new.self.calls (grind (arith, common_steps)) refl so_far.0 so_far.1 c.note.ensures)
