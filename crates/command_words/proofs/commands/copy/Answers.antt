use Rattle.command_words.proofs.commands.copy.Goals as goal

pub returns : goal.returns
returns c =
    let one = c.with_arg-copy.ensures _ _ c.of_image-copy.ensures c.path.ensures in
    c.with_arg.ensures _ _ one c.pages.ensures
