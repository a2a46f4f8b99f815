use Rattle.gophermap.proofs.Spellings.{spellings_read}
use Rattle.gophermap.proofs.laws.spellings_are_read.Goals as goal

pub returns : goal.returns
returns c = spellings_read
