use Rattle.command_words.proofs.commands.show.Goals as goal

pub returns : goal.returns
returns c =
    c.with_arg.ensures _ _ c.of_image-show.ensures c.flag.ensures
