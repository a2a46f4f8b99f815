use Rattle.tree_nodes.specs.NodeView.{others_view}
use Rattle.tree_loading.proofs.RowsMade.{node_within, node_after}
use Rattle.tree_loading.proofs.branch_row.BranchRow.add.Goals as goal

pub returns-then-size-self : goal.returns-then-size-self
returns-then-size-self c = λ others.
    node_within (others_view c.args.self.now.row.items) c.args.self.now.here.items c.push.new.self.items c.args.self.now.room c.as_slice.result.now c.args.key c.args.node others c.in_ok-push.ensures.items c.as_slice.ensures c.if-size-self.true

pub returns : goal.returns
returns c = λ others.
    node_after (others_view c.args.self.now.row.items) (others_view c.close.new.self.row.items) (others_view c.args.self.now.here.items) c.close.new.self.here.items c.push-2.new.self.items c.args.self.now.room c.as_slice.result.now c.args.key c.args.node others
    c.in_ok-close.ensures.row c.in_ok-close.ensures.here c.in_ok-push-2.ensures.items c.as_slice.ensures c.if-size-self.false
