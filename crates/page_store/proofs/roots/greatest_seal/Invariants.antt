use Rattle.std.proofs.Common.{◌≡◌}
use Rattle.page_store.specs.Roots.{greatest_seal}
use Rattle.page_store.proofs.roots.greatest_seal.Given as goal

abbrev pub invariant-loop-n : goal.invariant-loop-n
invariant-loop-n l = l.greatest ≡ greatest_seal l.sectors l.n
