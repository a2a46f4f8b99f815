use Rattle.turns.proofs.AllClosed.{nobody_waits}
use Rattle.turns.proofs.laws.nobody_waits_behind_a_pass.Goals as goal

pub returns : goal.returns
returns g c = λ old new es os pass. nobody_waits g.W.Wire.calls old new es os pass
