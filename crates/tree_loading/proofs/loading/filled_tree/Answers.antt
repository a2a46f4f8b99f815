use Rattle.std.proofs.Common.{◌<◌, ◌≤◌, length, arith}
use Rattle.tree_nodes.specs.Tree.{other_count}
use Rattle.tree_nodes.specs.NodeView.{others_view}
use Rattle.tree_loading.proofs.RowsMade.{view_count}
use Rattle.tree_loading.proofs.LevelsMade.{way_begins, way_fits, way_rises, level_smaller}
use Rattle.tree_loading.proofs.loading.filled_tree.Goals as goal

-- a level of which the loop asks for one more
more : (c : goal.In_ok-level-2) → 1 < length c.loop-alloc.level.items
more c = omega (arith, c.loop-alloc-test.true, c.len.ensures, c.loop-alloc.level.ok)

two : (c : goal.In_ok-level-2) → 2 ≤ other_count (others_view c.loop-alloc.level.items)
two c = omega (arith, more c, view_count c.loop-alloc.level.items)

pub loop-alloc-init : goal.loop-alloc-init
loop-alloc-init c = way_begins c.args.pairs.items (others_view c.in_ok-level.level.items) c.requires.map c.in_ok-level.ensures

pub overflow_add-height : goal.overflow_add-height
overflow_add-height c =
    let up = way_fits c.args.pairs.items c.loop-alloc.height (others_view c.loop-alloc.level.items) c.loop-alloc.invariant c.requires.map c.requires.count (two c) in
    omega (arith, up)

pub loop-alloc-smaller : goal.loop-alloc-smaller
loop-alloc-smaller c = level_smaller c.args.pairs.items c.loop-alloc.height c.loop-alloc.level.items c.in_ok-level-2.level.items c.loop-alloc.invariant (more c) c.in_ok-level-2.ensures

pub loop-alloc-preserved : goal.loop-alloc-preserved
loop-alloc-preserved c =
    way_rises c.args.pairs.items c.loop-alloc.height (others_view c.loop-alloc.level.items) (others_view c.in_ok-level-2.level.items) c.loop-alloc.invariant (two c) c.in_ok-level-2.ensures
