use Rattle.command_words.proofs.commands.replay.Goals as goal

pub returns : goal.returns
returns c =
    let one = c.with_arg-replay.ensures _ _ c.bare-replay.ensures c.path.ensures in
    c.with_arg.ensures _ _ one c.flag.ensures
