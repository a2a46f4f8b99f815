use Rattle.command_words.proofs.arguments.socket.Goals as goal

pub returns : goal.returns
returns c = c.text.ensures
