use Rattle.command_words.proofs.BuilderLemmas.{told}
use Rattle.command_words.proofs.commands.bare.Goals as goal

pub returns : goal.returns
returns c = told _ c.new.result c.about.result c.after_help.result _ _ (c.new.ensures.app, c.new.ensures.local) c.about.ensures c.after_help.ensures
