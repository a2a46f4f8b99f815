use Rattle.tree_nodes.specs.PageViews.{pairs_in}
use Rattle.cow_tree.proofs.LeafBytes.{row_pairs}
use Rattle.cow_tree.proofs.PairSizes.{value_size}
use Rattle.cow_tree.proofs.page_reads.value_of.Goals as goal

pub returns-clause-size : goal.returns-clause-size
returns-clause-size c =
    value_size (pairs_in c.args.leaf.now.count c.args.leaf.now.entries.now) c.args.key.now c.in_ok-value.value.now (row_pairs c.args.leaf.now.count c.args.leaf.now.entries.now) c.in_ok-value.ensures
