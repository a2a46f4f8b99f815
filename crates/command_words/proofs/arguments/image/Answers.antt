use Rattle.command_words.proofs.arguments.image.Goals as goal

pub returns : goal.returns
returns c = c.path.ensures
