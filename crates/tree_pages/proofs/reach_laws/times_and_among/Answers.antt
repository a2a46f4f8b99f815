use Rattle.tree_pages.proofs.Counted.{among_some, among_none, among_once}
use Rattle.tree_pages.proofs.reach_laws.times_and_among.Goals as goal

pub returns : goal.returns
returns c = λ n ns. (among_some n ns, among_none n ns, among_once n ns)
