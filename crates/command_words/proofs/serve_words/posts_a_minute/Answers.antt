use Rattle.command_words.proofs.serve_words.posts_a_minute.Goals as goal

pub returns : goal.returns
returns c = c.unless_rounds.ensures _ c.number.ensures
