use Rattle.std.proofs.Common.{◌≡◌, drop}
use Rattle.page_store.specs.Batch.{pair_after}
use Rattle.page_store.proofs.batch.next_pair.Given as goal

abbrev pub invariant-loop-pair : goal.invariant-loop-pair
invariant-loop-pair l = pair_after l.pairs l.after ≡ pair_after (drop l.pair-index l.pairs) l.after
