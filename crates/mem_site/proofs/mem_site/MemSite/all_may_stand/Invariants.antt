use Rattle.std.proofs.Common.{length, map}
use Rattle.mem_site.specs.ValidSites.{AllMayStand}
use Rattle.mem_site.proofs.mem_site.MemSite.all_may_stand.Given as goal

-- the rest decides for all
abbrev pub invariant-loop-rest : goal.invariant-loop-rest
invariant-loop-rest l =
    (AllMayStand l.self (map (λ e. (e.0.now, e.1.now)) l.rest) → AllMayStand l.self (map (λ e. (e.0.now, e.1.now)) l.entries))
    × (AllMayStand l.self (map (λ e. (e.0.now, e.1.now)) l.entries) → AllMayStand l.self (map (λ e. (e.0.now, e.1.now)) l.rest))

abbrev pub decreases-loop-rest : goal.decreases-loop-rest
decreases-loop-rest l = length l.rest
