use Rattle.group_world.proofs.PlainHubs.{plain_hubs_stay}
use Rattle.group_world.proofs.laws.plain_hubs_stay.Goals as goal

pub returns : goal.returns
returns c = plain_hubs_stay
