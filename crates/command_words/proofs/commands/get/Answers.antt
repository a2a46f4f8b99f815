use Rattle.command_words.proofs.commands.get.Goals as goal

pub returns : goal.returns
returns c =
    let one = c.with_arg-get.ensures _ _ c.of_image-get.ensures c.path-selector.ensures in
    c.with_arg.ensures _ _ one c.text.ensures
