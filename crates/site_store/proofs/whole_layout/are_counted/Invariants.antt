use Rattle.std.proofs.Common.{◌≡◌, length, map}
use Rattle.site_store.proofs.LayoutsCounted.{IsLeft}
use Rattle.site_store.proofs.whole_layout.are_counted.Given as goal

abbrev pub invariant-loop-rest : goal.invariant-loop-rest
invariant-loop-rest l = (l.read ≡ l.fn.read) × IsLeft l.fn.read.0 (map (λ e. (e.0.now, e.1.now)) l.items) (map (λ e. (e.0.now, e.1.now)) l.rest) l.left

abbrev pub decreases-loop-rest : goal.decreases-loop-rest
decreases-loop-rest l = length l.rest
