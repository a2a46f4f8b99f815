use Rattle.tree_nodes.proofs.EncodedPages.{leaf_again, valid_branch_again}
use Rattle.tree_nodes.proofs.laws.a_page_is_read_again.Goals as goal

pub returns-clause-leaf : goal.returns-clause-leaf
returns-clause-leaf c = leaf_again

pub returns-clause-branch : goal.returns-clause-branch
returns-clause-branch c = valid_branch_again
