use Rattle.std.proofs.Common.{◌≡◌}
use Rattle.page_store.specs.Flat.{numbers_from}
use Rattle.filled_images.proofs.making.page_numbers.Given as goal

abbrev pub invariant-loop-n : goal.invariant-loop-n
invariant-loop-n l = l.numbers.items ≡ numbers_from 2 l.n
