use Rattle.group_hub.proofs.WorldsKept.{faults_keep}
use Rattle.group_hub.proofs.laws.faults_keep_the_world.Goals as goal

pub returns : goal.returns
returns c = faults_keep
