use Rattle.std.proofs.Common.{length}
use Rattle.turns.proofs.Sendings.{IsTaken}
use Rattle.admin_client.proofs.asking.send.Given as goal

-- so much is taken
abbrev pub invariant-loop-rest : goal.invariant-loop-rest
invariant-loop-rest g l = IsTaken l.fn.bytes l.rest (g.W.Wire.calls l.fn.wire) (g.W.Wire.calls l.wire)

abbrev pub decreases-loop-rest : goal.decreases-loop-rest
decreases-loop-rest g l = length l.rest
