use Rattle.std.proofs.Common.{length}
use Rattle.test_help.proofs.batches.+have_sizes.Given as goal

abbrev pub decreases-have_sizes : goal.decreases-have_sizes
decreases-have_sizes l = length l.batch.now
