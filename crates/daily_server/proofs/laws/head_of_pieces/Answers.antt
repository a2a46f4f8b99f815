use Rattle.std.proofs.Common.{◌++◌}
use Rattle.daily_server.proofs.HeadsKept.{take_pieces}
use Rattle.daily_server.proofs.laws.head_of_pieces.Goals as goal

pub returns : goal.returns
returns c = λ before piece later. take_pieces 256 (before ++ piece) later
