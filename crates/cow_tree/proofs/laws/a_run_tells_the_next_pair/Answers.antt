use Rattle.cow_tree.proofs.RunsTell.{run_tells}
use Rattle.cow_tree.proofs.laws.a_run_tells_the_next_pair.Goals as goal

pub returns : goal.returns
returns c = λ pairs run key rising is h. run_tells pairs run key rising is h
