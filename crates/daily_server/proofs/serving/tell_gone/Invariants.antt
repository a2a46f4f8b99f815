use Rattle.std.proofs.Common.{take}
use Rattle.daily_server.specs.Logged.{AreTold}
use Rattle.daily_server.proofs.serving.tell_gone.Given as goal

-- so many of them are told
abbrev pub invariant-loop-client : goal.invariant-loop-client
invariant-loop-client g l = AreTold g.L.Write.contents l.form l.moment (take l.client-index l.clients) (l.fn.log, l.fn.written.calls) (l.log, l.written.calls)
