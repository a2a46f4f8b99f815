use Rattle.std.proofs.Common.{◌≡◌, ◌+◌, drop}
use Rattle.page_store.specs.Encoding.{fitting}
use Rattle.tree_nodes.proofs.splitting.fitting.Given as goal

abbrev pub invariant-loop-pair : goal.invariant-loop-pair
invariant-loop-pair l = record {
  count : l.count ≡ l.pair-index;
  all : l.count + fitting l.room (drop l.pair-index l.pairs) ≡ fitting l.fn.room l.pairs;
}
