use Rattle.std.proofs.Common.{◌≡◌, ◌+◌, ◌-◌, suc, sym, arith}
use Rattle.page_store.specs.Pages.{child_at}
use Rattle.tree_nodes.proofs.EntriesOneByOne.{after_step}
use Rattle.tree_nodes.proofs.page_views.after_children.Goals as goal

pub loop-preserved : goal.loop-preserved
loop-preserved c =
    let t = c.loop-test.true in
    let is : c.args.count - c.loop.counter ≡ suc (c.args.count - (c.loop.counter + 1)) = omega (arith, t) in
    after_step child_at (c.args.count - c.loop.counter) (c.args.count - (c.loop.counter + 1)) c.loop.rest.now _ c.in_ok-after.after.now _ is (sym c.in_ok-after.ensures) c.loop.invariant
