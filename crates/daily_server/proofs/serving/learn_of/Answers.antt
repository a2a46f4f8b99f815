use Rattle.std.proofs.Common.{refl}
use Rattle.turns.proofs.Runnings.{run_as}
use Rattle.daily_server.proofs.serving.learn_of.Goals as goal

pub returns-clause-run : goal.returns-clause-run
returns-clause-run g c = run_as _ _ _ _ _ _ _ c.learn.ensures (λ es os p. record { learns = p; came = refl; moved = refl })
