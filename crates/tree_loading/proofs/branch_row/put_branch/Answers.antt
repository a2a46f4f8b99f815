use Rattle.std.proofs.Common.{vec_len, length, arith}
use Rattle.tree_nodes.specs.NodeView.{others_view}
use Rattle.tree_nodes.proofs.FittingEntries.{is_none, is_some}
use Rattle.tree_loading.proofs.RowsMade.{no_branch_added, branch_added}
use Rattle.tree_loading.proofs.branch_row.put_branch.Goals as goal

pub returns-then-is_empty : goal.returns-then-is_empty
returns-then-is_empty c =
    no_branch_added (others_view c.args.row.now.items) c.args.children.items (is_none c.is_empty.result (vec_len c.args.children) (length c.args.children.items) c.is_empty.ensures c.if-is_empty.true (omega (arith, c.args.children.ok)))

pub returns : goal.returns
returns c =
    branch_added c.args.row.now.items c.push.new.self.items c.args.children.items c.in_ok-first.first c.remove-key.new.self c.remove-key.result c.in_ok-push.ensures.items
    (is_some c.is_empty.result (vec_len c.args.children) (length c.args.children.items) c.is_empty.ensures c.if-is_empty.false (omega (arith, c.args.children.ok))) c.remove-key.ensures.value c.in_ok-first.ensures.ok c.remove-key.ensures.items
