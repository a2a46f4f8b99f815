use Rattle.std.proofs.Common.{◌≡◌, drop}
use Rattle.page_alloc.specs.Kept.{is_pinned}
use Rattle.page_alloc.proofs.sweep.is_pinned.Given as goal

abbrev pub invariant-loop-pin : goal.invariant-loop-pin
invariant-loop-pin l = is_pinned (drop l.pin-index l.pins) l.life ≡ is_pinned l.pins l.life
