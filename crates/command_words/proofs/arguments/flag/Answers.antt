use Rattle.command_words.proofs.BuilderLemmas.{free_flag}
use Rattle.command_words.proofs.arguments.flag.Goals as goal

pub returns : goal.returns
returns c = free_flag c.args.name.now c.new.result c.long.result c.help.result c.action.result _ _ c.new.ensures.rule c.new.ensures.optional c.long.ensures c.help.ensures c.action.ensures
