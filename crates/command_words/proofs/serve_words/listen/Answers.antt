use Rattle.command_words.proofs.serve_words.listen.Goals as goal

pub returns : goal.returns
returns c = c.unless_rounds.ensures _ c.text.ensures
