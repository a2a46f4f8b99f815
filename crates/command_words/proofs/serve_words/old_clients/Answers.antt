use Rattle.command_words.proofs.serve_words.old_clients.Goals as goal

pub returns : goal.returns
returns c = c.unless_rounds.ensures _ c.flag.ensures
