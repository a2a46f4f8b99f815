use Rattle.command_words.proofs.commands.drop.Goals as goal

pub returns : goal.returns
returns c =
    let one = c.with_arg-drop.ensures _ _ c.of_image-drop.ensures (c.some_values.ensures _ c.path-selector.ensures) in
    c.with_arg.ensures _ _ one c.socket.ensures
