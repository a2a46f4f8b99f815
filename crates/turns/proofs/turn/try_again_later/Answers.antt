use Rattle.std.proofs.Common.{refl}
use Rattle.std.specs.Fmt.{digits}
use Rattle.text_writer.specs.Errors.{plus_error, words_of}
use Rattle.turns.proofs.turn.try_again_later.Goals as goal

pub returns : goal.returns
unfolding plus_error words_of digits
returns c = refl
