use Rattle.group_world.proofs.Continuing.{posts_wait}
use Rattle.group_world.proofs.laws.posts_wait.Goals as goal

pub returns : goal.returns
returns c = posts_wait
