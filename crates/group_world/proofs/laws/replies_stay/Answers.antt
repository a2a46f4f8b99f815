use Rattle.group_world.proofs.Groups.{replies_stay}
use Rattle.group_world.proofs.laws.replies_stay.Goals as goal

pub returns : goal.returns
returns c = replies_stay
