use Rattle.command_words.proofs.arguments.admin.Goals as goal

pub returns : goal.returns
returns c = c.text.ensures
