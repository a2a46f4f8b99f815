use Rattle.command_words.proofs.arguments.host.Goals as goal

pub returns : goal.returns
returns c = c.text.ensures
