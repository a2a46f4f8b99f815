use Rattle.command_words.proofs.commands.init.Goals as goal

pub returns : goal.returns
returns c =
    let one = c.with_arg-init.ensures _ _ c.of_image-init.ensures (c.standing.ensures _ c.pages.ensures) in
    let two = c.with_arg-init-2.ensures _ _ one (c.standing-2.ensures _ c.host.ensures) in
    let three = c.with_arg-init-3.ensures _ _ two (c.standing-3.ensures _ c.port.ensures) in
    let four = c.with_arg-init-4.ensures _ _ three (c.standing-4.ensures _ c.admin.ensures) in
    let five = c.with_arg-init-5.ensures _ _ four (c.standing-5.ensures _ c.title.ensures) in
    c.with_arg.ensures _ _ five c.now.ensures
