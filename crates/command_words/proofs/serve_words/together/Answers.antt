use Rattle.command_words.proofs.serve_words.together.Goals as goal

pub returns : goal.returns
returns c = c.in_rounds.ensures.rule
