use Rattle.tree_nodes.proofs.SplitsInTwo.{leaf_stays, leaf_in_two, branch_stays, branch_in_two}
use Rattle.tree_nodes.proofs.laws.a_split_fits_two_pages.Goals as goal

pub returns-clause-whole_leaf : goal.returns-clause-whole_leaf
returns-clause-whole_leaf c = leaf_stays

pub returns-clause-leaf : goal.returns-clause-leaf
returns-clause-leaf c = leaf_in_two

pub returns-clause-whole_branch : goal.returns-clause-whole_branch
returns-clause-whole_branch c = branch_stays

pub returns-clause-branch : goal.returns-clause-branch
returns-clause-branch c = branch_in_two
