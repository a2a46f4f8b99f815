use Rattle.group_world.proofs.Groups.{finds_its_place}
use Rattle.group_world.proofs.laws.finds_its_place.Goals as goal

pub returns : goal.returns
returns c = finds_its_place
