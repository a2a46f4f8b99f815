use Rattle.cow_tree.proofs.FirstWrong.{names_the_first}
use Rattle.cow_tree.proofs.laws.the_first_wrong_page_is_named.Goals as goal

pub returns : goal.returns
returns c = names_the_first
