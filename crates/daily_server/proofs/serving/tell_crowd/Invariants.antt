use Rattle.std.proofs.Common.{take}
use Rattle.daily_server.specs.Logged.{AreToldOff}
use Rattle.daily_server.proofs.serving.tell_crowd.Given as goal

-- so many of them are told
abbrev pub invariant-loop-away : goal.invariant-loop-away
invariant-loop-away g l = AreToldOff g.L.Write.contents l.form l.moment (take l.away-index l.crowd) (l.fn.log, l.fn.written.calls) (l.log, l.written.calls)
