use Rattle.host_on_disk.proofs.RunsInTurn.{found_in_turn}
use Rattle.host_on_disk.proofs.laws.any_number_of_crashes.Goals as goal

pub returns : goal.returns
returns g c = found_in_turn _ _
