use Rattle.daily_server.proofs.LogWrites.{a_front}
use Rattle.daily_server.proofs.laws.takes_a_front.Goals as goal

pub returns : goal.returns
returns c = a_front
