use Rattle.std.proofs.Common.{◌≡◌, drop}
use Rattle.page_store.specs.Batch.{value_at}
use Rattle.tree_nodes.proofs.node.has_pair.Given as goal

abbrev pub invariant-loop-pair : goal.invariant-loop-pair
invariant-loop-pair l = value_at l.pairs l.key ≡ value_at (drop l.pair-index l.pairs) l.key
