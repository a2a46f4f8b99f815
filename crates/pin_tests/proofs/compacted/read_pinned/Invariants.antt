use Rattle.std.proofs.Common.{◌≡◌}
use Rattle.pin_tests.proofs.compacted.read_pinned.Given as goal

abbrev pub invariant-loop-chunk : goal.invariant-loop-chunk
invariant-loop-chunk g l = (g.S.SiteKeeper.site_state l.site).pins ≡ (g.S.SiteKeeper.site_state l.fn.site).pins
