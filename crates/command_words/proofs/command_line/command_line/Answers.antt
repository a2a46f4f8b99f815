use Rattle.command_words.proofs.command_line.command_line.Goals as goal

pub returns : goal.returns
returns c =
    let one = c.with_command-all.ensures _ _ c.telling.ensures c.check.ensures in
    let two = c.with_command-all-2.ensures _ _ one c.compact.ensures in
    let three = c.with_command-all-3.ensures _ _ two c.upgrade.ensures in
    let four = c.with_command-all-4.ensures _ _ three c.copy.ensures in
    let five = c.with_command-all-5.ensures _ _ four c.replay.ensures in
    c.with_command.ensures _ _ five c.serve.ensures
