use Rattle.cow_tree.proofs.NamedWalks.{same_trees}
use Rattle.cow_tree.proofs.laws.a_page_is_named_where_no_tree_is_found.Goals as goal

pub returns : goal.returns
returns c = same_trees
