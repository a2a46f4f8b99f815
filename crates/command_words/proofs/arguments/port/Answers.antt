use Rattle.command_words.proofs.arguments.port.Goals as goal

pub returns : goal.returns
returns c = c.number.ensures
