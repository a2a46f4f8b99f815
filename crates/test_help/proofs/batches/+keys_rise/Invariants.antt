use Rattle.std.proofs.Common.{length}
use Rattle.test_help.proofs.batches.+keys_rise.Given as goal

abbrev pub decreases-keys_rise : goal.decreases-keys_rise
decreases-keys_rise l = length l.batch.now
