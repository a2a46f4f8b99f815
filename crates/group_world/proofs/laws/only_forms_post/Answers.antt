use Rattle.group_world.proofs.LaterReplies.{only_forms_post}
use Rattle.group_world.proofs.laws.only_forms_post.Goals as goal

pub returns : goal.returns
returns c = only_forms_post
