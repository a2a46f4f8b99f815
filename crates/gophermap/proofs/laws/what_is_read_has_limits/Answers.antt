use Rattle.gophermap.proofs.Limits.{lines_fit}
use Rattle.gophermap.proofs.laws.what_is_read_has_limits.Goals as goal

pub returns : goal.returns
returns c = lines_fit
