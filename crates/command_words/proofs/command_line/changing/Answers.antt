use Rattle.command_words.proofs.command_line.changing.Goals as goal

pub returns : goal.returns
returns c =
    let one = c.with_command-all.ensures _ _ c.head.ensures c.format.ensures in
    let two = c.with_command-all-2.ensures _ _ one c.init.ensures in
    let three = c.with_command-all-3.ensures _ _ two c.apply.ensures in
    c.with_command.ensures _ _ three c.drop.ensures
