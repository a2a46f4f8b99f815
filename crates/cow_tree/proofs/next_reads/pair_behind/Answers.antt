use Rattle.tree_nodes.specs.PageViews.{pairs_in}
use Rattle.cow_tree.proofs.LeafBytes.{row_pairs}
use Rattle.cow_tree.proofs.PairSizes.{after_sizes}
use Rattle.cow_tree.proofs.next_reads.pair_behind.Goals as goal

pub returns-clause-sizes : goal.returns-clause-sizes
returns-clause-sizes c =
    after_sizes (pairs_in c.args.leaf.now.count c.args.leaf.now.entries.now) c.args.after.now (c.in_ok-pair.pair.0.now, c.in_ok-pair.pair.1.now) (row_pairs c.args.leaf.now.count c.args.leaf.now.entries.now) c.in_ok-pair.ensures
