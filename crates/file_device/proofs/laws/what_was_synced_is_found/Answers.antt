use Rattle.file_device.proofs.Found.{found}
use Rattle.file_device.proofs.laws.what_was_synced_is_found.Goals as goal

pub returns : goal.returns
returns c = found
