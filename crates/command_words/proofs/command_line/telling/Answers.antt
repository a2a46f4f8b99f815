use Rattle.command_words.proofs.command_line.telling.Goals as goal

pub returns : goal.returns
returns c =
    let one = c.with_command-all.ensures _ _ c.changing.ensures c.get.ensures in
    let two = c.with_command-all-2.ensures _ _ one c.posts.ensures in
    let three = c.with_command-all-3.ensures _ _ two c.show.ensures in
    let four = c.with_command-all-4.ensures _ _ three c.export.ensures in
    c.with_command.ensures _ _ four c.import.ensures
