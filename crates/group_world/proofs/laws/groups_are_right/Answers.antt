use Rattle.group_world.proofs.Groups.{groups_are_right}
use Rattle.group_world.proofs.laws.groups_are_right.Goals as goal

pub returns : goal.returns
returns c = groups_are_right
