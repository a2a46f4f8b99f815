use Rattle.std.proofs.Common.{◌≡◌, ◌<◌, ℕ, length}
use Rattle.page_alloc.specs.Runs.{at}
use Rattle.page_alloc.proofs.order.numbers.Given as goal

abbrev pub invariant-loop-number : goal.invariant-loop-number
invariant-loop-number l = (length l.all.items ≡ l.number) × ((k : ℕ) → k < l.number → at l.all.items k ≡ k)
