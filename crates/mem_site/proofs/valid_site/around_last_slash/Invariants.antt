use Rattle.std.proofs.Common.{length}
use Rattle.mem_site.proofs.CutNames.{IsSeen}
use Rattle.mem_site.proofs.valid_site.around_last_slash.Given as goal

-- what is passed by has no slash
abbrev pub invariant-loop-front : goal.invariant-loop-front
invariant-loop-front l = IsSeen l.bytes l.front

abbrev pub decreases-loop-front : goal.decreases-loop-front
decreases-loop-front l = length l.front
