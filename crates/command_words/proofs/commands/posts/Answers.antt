use Rattle.command_words.proofs.commands.posts.Goals as goal

pub returns : goal.returns
returns c =
    c.with_arg.ensures _ _ c.of_image-posts.ensures c.path-board.ensures
