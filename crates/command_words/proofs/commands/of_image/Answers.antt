use Rattle.command_words.proofs.commands.of_image.Goals as goal

pub returns : goal.returns
returns c = c.with_arg.ensures _ _ c.bare.ensures c.image.ensures
