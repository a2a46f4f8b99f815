use Rattle.std.proofs.Common.{◌-◌}
use Rattle.file_device.proofs.image_file.ImageFile.write_zeros.Given as goal

abbrev pub decreases-loop-at : goal.decreases-loop-at
decreases-loop-at l = l.to - l.at
