use Rattle.turns.specs.WireCalls.{HasMade}
use Rattle.admin_client.proofs.Asked.{IsHeardSoFar}
use Rattle.admin_client.proofs.asking.hear.Given as goal

-- so much came
abbrev pub invariant-loop-read : goal.invariant-loop-read
invariant-loop-read g l = HasMade (g.W.Wire.calls l.fn.wire) (g.W.Wire.calls l.wire) (λ made. IsHeardSoFar l.reply.items made)
