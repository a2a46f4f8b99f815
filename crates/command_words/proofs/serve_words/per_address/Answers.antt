use Rattle.command_words.proofs.serve_words.per_address.Goals as goal

pub returns : goal.returns
returns c = c.unless_rounds.ensures _ c.number.ensures
