use Rattle.command_words.proofs.commands.import.Goals as goal

pub returns : goal.returns
returns c =
    let one = c.with_arg-import.ensures _ _ c.bare-import.ensures c.path.ensures in
    c.with_arg.ensures _ _ one c.text.ensures
