use Rattle.group_world.proofs.LaterReplies.{later_replies_are_right}
use Rattle.group_world.proofs.laws.later_replies_are_known.Goals as goal

pub returns : goal.returns
returns c = later_replies_are_right
