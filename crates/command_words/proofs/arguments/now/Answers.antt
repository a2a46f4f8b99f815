use Rattle.command_words.proofs.arguments.now.Goals as goal

pub returns : goal.returns
returns c = c.number.ensures
