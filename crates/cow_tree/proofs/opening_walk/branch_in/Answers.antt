use Rattle.std.specs.Prelude.{option_copied}
use Rattle.page_store.specs.Content.{place_in}
use Rattle.tree_nodes.specs.PageViews.{bounds_of, children_in}
use Rattle.cow_tree.proofs.Pages.{names_inside}
use Rattle.cow_tree.proofs.opening_walk.branch_in.Goals as goal

pub returns-in-Ok-clause-inside : goal.returns-in-Ok-clause-inside
returns-in-Ok-clause-inside c = names_inside (place_in (bounds_of c.args.bounds) c.args.level c.args.page) c.args.low.now (option_copied c.args.high) c.args.bytes.now (children_in c.in-Ok.branch.count c.in-Ok.branch.entries.now) c.in-Ok.ensures.children
