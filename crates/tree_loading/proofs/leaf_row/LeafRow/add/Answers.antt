use Rattle.tree_nodes.specs.NodeView.{others_view}
use Rattle.tree_loading.proofs.RowsMade.{pair_after}
use Rattle.tree_loading.proofs.leaf_row.LeafRow.add.Goals as goal

pub returns : goal.returns
returns c = λ pairs.
    pair_after (others_view c.args.self.now.row.items) (others_view c.close.new.self.row.items) c.args.self.now.here.items c.close.new.self.here.items c.push-2.new.self.items c.args.self.now.room c.entry_size-size.result c.args.pair pairs
    c.in_ok-close.ensures.row c.in_ok-close.ensures.here c.in_ok-push-2.ensures.items c.entry_size-size.ensures.size c.if-size-self.false
