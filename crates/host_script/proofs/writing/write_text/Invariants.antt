use Rattle.host_script.proofs.Replays.{IsTaken}
use Rattle.host_script.proofs.writing.write_text.Given as goal

-- what is left of the text was not taken, and all else was
abbrev pub invariant-loop : goal.invariant-loop
invariant-loop g l = record { taken : IsTaken (g.W.Write.contents l.fn.writer) (g.W.Write.contents l.writer) l.text l.rest }
