use Rattle.command_words.proofs.commands.apply.Goals as goal

pub returns : goal.returns
returns c =
    let one = c.with_arg-apply.ensures _ _ c.of_image-apply.ensures c.path-file.ensures in
    let two = c.with_arg-apply-2.ensures _ _ one c.now.ensures in
    c.with_arg.ensures _ _ two c.socket.ensures
