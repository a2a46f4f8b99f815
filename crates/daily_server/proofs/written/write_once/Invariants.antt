use Rattle.std.proofs.Common.{◌≡◌}
use Rattle.std.specs.Io.KnownBytes.{Keeps}
use Rattle.daily_server.proofs.written.write_once.Given as goal

-- what a signal ended took nothing, and is not noted
abbrev pub invariant-loop-try : goal.invariant-loop-try
invariant-loop-try g l = record {
  kept : Keeps (g.L.Write.contents l.fn.log) (g.L.Write.contents l.log);
  unnoted : l.written.calls ≡ l.fn.written.calls;
}
