use Rattle.command_words.proofs.serve_words.serve_clients.Goals as goal

pub returns : goal.returns
returns c =
    let one = c.with_bound-serve.ensures _ _ c.serve_rounds.ensures c.listen.ensures in
    let two = c.with_bound-serve-2.ensures _ _ one c.quiet.ensures in
    let three = c.with_bound-serve-3.ensures _ _ two c.per_address.ensures in
    c.with_bound.ensures _ _ three c.posts_a_minute.ensures
