use Rattle.command_words.proofs.serve_words.serve_rounds.Goals as goal

pub returns : goal.returns
returns c =
    let one = c.with_bound-serve.ensures _ _ c.of_image-serve.ensures c.together.ensures in
    c.with_bound.ensures _ _ one c.rounds.ensures
