use Rattle.std.proofs.Common.{arith}
use Rattle.file_copies.proofs.new_file.sectors_of.Goals as goal

pub returns : goal.returns
returns c = λ s count copy. let same = c.from.ensures in let pages = c.pages.ensures s count copy in omega (arith, same, pages)
