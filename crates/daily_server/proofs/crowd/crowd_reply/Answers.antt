use Rattle.std.proofs.Common.{refl}
use Rattle.text_writer.specs.Errors.{plain_error, words_of}
use Rattle.daily_server.proofs.crowd.crowd_reply.Goals as goal

pub returns : goal.returns
unfolding plain_error words_of
returns c = refl
