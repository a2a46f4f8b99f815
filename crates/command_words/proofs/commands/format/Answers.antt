use Rattle.command_words.proofs.commands.format.Goals as goal

pub returns : goal.returns
returns c =
    let one = c.with_arg-format.ensures _ _ c.of_image-format.ensures c.pages.ensures in
    let two = c.with_arg-format-2.ensures _ _ one c.host.ensures in
    let three = c.with_arg-format-3.ensures _ _ two c.port.ensures in
    let four = c.with_arg-format-4.ensures _ _ three c.admin.ensures in
    let five = c.with_arg-format-5.ensures _ _ four c.title.ensures in
    c.with_arg.ensures _ _ five c.now.ensures
