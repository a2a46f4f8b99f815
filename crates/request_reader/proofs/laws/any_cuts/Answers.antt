use Rattle.request_reader.proofs.Cuts.{says_the_whole, says_the_end}
use Rattle.request_reader.proofs.laws.any_cuts.Goals as goal

pub returns-clause-open : goal.returns-clause-open
returns-clause-open c = says_the_whole

pub returns-clause-ended : goal.returns-clause-ended
returns-clause-ended c = says_the_end
