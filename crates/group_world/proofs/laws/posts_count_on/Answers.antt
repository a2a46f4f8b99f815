use Rattle.group_world.proofs.CountedPosts.{posts_count_on}
use Rattle.group_world.proofs.laws.posts_count_on.Goals as goal

pub returns : goal.returns
returns c = posts_count_on
