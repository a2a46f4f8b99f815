use Rattle.std.proofs.Common.{length, map}
use Rattle.mem_site.specs.ValidSites.{AreTyped}
use Rattle.mem_site.proofs.valid_site.valid_names.Given as goal

-- where the rest is typed, all are
abbrev pub invariant-loop-rest : goal.invariant-loop-rest
invariant-loop-rest l = AreTyped (map (λ e. (e.0.now, e.1.now)) l.rest) → AreTyped (map (λ e. (e.0.now, e.1.now)) l.entries)

abbrev pub decreases-loop-rest : goal.decreases-loop-rest
decreases-loop-rest l = length l.rest
