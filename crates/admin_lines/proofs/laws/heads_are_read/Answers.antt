use Rattle.admin_lines.proofs.HeadsRead.{head_read}
use Rattle.admin_lines.proofs.laws.heads_are_read.Goals as goal

pub returns : goal.returns
returns c = λ count rest few. head_read count rest few
