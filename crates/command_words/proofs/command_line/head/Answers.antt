use Rattle.std.proofs.Common.{codes}
use Rattle.command_words.proofs.BuilderLemmas.{headed}
use Rattle.command_words.proofs.command_line.head.Goals as goal

pub returns : goal.returns
returns c = headed (codes "gopher_host") c.new.result c.version.result c.about.result c.subcommand_required.result _ _ (c.new.ensures.app, c.new.ensures.local) c.version.ensures c.about.ensures c.subcommand_required.ensures
