use Rattle.command_words.proofs.arguments.title.Goals as goal

pub returns : goal.returns
returns c = c.text.ensures
