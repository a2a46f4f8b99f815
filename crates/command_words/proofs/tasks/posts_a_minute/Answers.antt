use Rattle.std.proofs.Common.{codes}
use Rattle.clap.specs.Words.{found_of}
use Rattle.command_words.proofs.FoundLemmas.{number_or_none}
use Rattle.command_words.proofs.tasks.posts_a_minute.Goals as goal

pub returns : goal.returns
returns c = number_or_none 32 (found_of c.args.matches.now) (codes "posts-per-minute") c.get_one.result c.get_one.ensures.none c.get_one.ensures.value
