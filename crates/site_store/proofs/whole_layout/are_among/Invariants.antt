use Rattle.std.proofs.Common.{◌≡◌, Some, take}
use Rattle.std.specs.Prelude.{All}
use Rattle.page_store.specs.Batch.{value_at}
use Rattle.site_store.proofs.whole_layout.are_among.Given as goal

abbrev pub invariant-loop-entry : goal.invariant-loop-entry
invariant-loop-entry l = (l.read ≡ l.fn.read) × All (λ p. value_at l.fn.read.0 p.0 ≡ Some p.1) (take l.entry-index l.entries)
