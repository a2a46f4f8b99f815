use Rattle.std.proofs.Common.{codes}
use Rattle.clap.specs.Words.{found_of}
use Rattle.command_words.proofs.FoundLemmas.{found_flag}
use Rattle.command_words.proofs.tasks.is_quiet.Goals as goal

pub returns : goal.returns
returns c = found_flag (found_of c.args.matches.now) (codes "quiet") c.get_flag.result c.get_flag.ensures.none c.get_flag.ensures.value c.get_flag.ensures.other
