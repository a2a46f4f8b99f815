use Rattle.std.proofs.Common.{length}
use Rattle.std.specs.Prelude.{flat_map}
use Rattle.std.specs.Io.KnownBytes.{Appends}
use Rattle.turns.specs.WireCalls.{HasMade}
use Rattle.turns.proofs.Sendings.{IsTaken}
use Rattle.daily_server.specs.Due.{bytes_by}
use Rattle.daily_server.proofs.written.write_out.Given as goal

-- so much is taken, and the log has it
abbrev pub invariant-loop-rest : goal.invariant-loop-rest
invariant-loop-rest g l =
    record {
      taken : IsTaken l.fn.bytes l.rest l.fn.written.calls l.written.calls;
      has : HasMade l.fn.written.calls l.written.calls (λ made. Appends (g.L.Write.contents l.fn.log) (g.L.Write.contents l.log) (flat_map bytes_by made));
    }

abbrev pub decreases-loop-rest : goal.decreases-loop-rest
decreases-loop-rest g l = length l.rest
