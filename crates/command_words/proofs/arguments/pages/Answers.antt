use Rattle.command_words.proofs.arguments.pages.Goals as goal

pub returns : goal.returns
returns c = c.number.ensures
