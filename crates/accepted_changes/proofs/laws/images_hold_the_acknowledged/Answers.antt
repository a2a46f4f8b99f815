use Rattle.accepted_changes.proofs.Crashes.{images_hold_the_acknowledged}
use Rattle.accepted_changes.proofs.laws.images_hold_the_acknowledged.Goals as goal

pub returns : goal.returns
returns g c = images_hold_the_acknowledged _ _
