use Rattle.change_flaws.proofs.ToldRead.{all_read}
use Rattle.change_flaws.proofs.laws.refusals_are_read.Goals as goal

pub returns : goal.returns
returns c = all_read
