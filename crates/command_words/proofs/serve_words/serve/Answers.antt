use Rattle.command_words.proofs.serve_words.serve.Goals as goal

pub returns : goal.returns
returns c =
    let one = c.with_bound-serve.ensures _ _ c.serve_clients.ensures c.old_clients.ensures in
    let two = c.with_bound-serve-2.ensures _ _ one c.common_log.ensures in
    let three = c.with_bound-serve-3.ensures _ _ two (c.unless_rounds.ensures _ c.socket.ensures) in
    c.with_bound.ensures _ _ three c.no_socket.ensures
