use Rattle.host_on_disk.proofs.FoundAgain.{found_again}
use Rattle.host_on_disk.proofs.laws.what_a_crash_left_is_found_again.Goals as goal

pub returns : goal.returns
returns c = found_again
