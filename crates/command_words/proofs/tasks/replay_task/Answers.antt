use Rattle.std.proofs.Common.{codes, refl}
use Rattle.clap.specs.Words.{found_of}
use Rattle.command_words.proofs.FoundLemmas.{found_flag}
use Rattle.command_words.proofs.TaskLemmas.{replayed}
use Rattle.command_words.proofs.tasks.replay_task.Goals as goal

pub returns : goal.returns
returns c =
    replayed (codes "replay") (found_of c.args.matches.now) c.get_str.result c.get_flag.result refl c.get_str.ensures (found_flag (found_of c.args.matches.now) (codes "group") c.get_flag.result c.get_flag.ensures.none c.get_flag.ensures.value c.get_flag.ensures.other)
