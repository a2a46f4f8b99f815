use Rattle.tree_pages.proofs.RootsWritten.{holds_tree}
use Rattle.tree_pages.proofs.laws.a_found_tree_is_content.Goals as goal

pub returns : goal.returns
returns c = holds_tree
