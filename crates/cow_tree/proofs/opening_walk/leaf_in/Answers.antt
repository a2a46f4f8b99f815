use Rattle.std.specs.Prelude.{option_copied}
use Rattle.page_store.specs.Content.{place_in}
use Rattle.tree_nodes.specs.PageViews.{bounds_of, pairs_in}
use Rattle.cow_tree.proofs.PairSizes.{leaf_pairs}
use Rattle.cow_tree.proofs.opening_walk.leaf_in.Goals as goal

pub returns-in-Ok-clause-sizes : goal.returns-in-Ok-clause-sizes
returns-in-Ok-clause-sizes c = leaf_pairs (place_in (bounds_of c.args.bounds) 0 c.args.page) c.args.low.now (option_copied c.args.high) c.args.bytes.now (pairs_in c.in-Ok.leaf.count c.in-Ok.leaf.entries.now) c.in-Ok.ensures.pairs
