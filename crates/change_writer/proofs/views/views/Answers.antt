use Rattle.std.proofs.Common.{Ok, rules, refl, arith}
use Rattle.change_file.specs.Views.{view_of}
use Rattle.change_writer.specs.Said.{IsSaidView}
use Rattle.change_writer.proofs.Lists.{one_same, one_unsaid, all_said}
use Rattle.change_writer.proofs.views.views.Goals as goal

pub loop-one-preserved : goal.loop-one-preserved
loop-one-preserved c =
    rw c.in_ok-push.ensures.items (one_same view_of IsSaidView 1 c.args.views.now c.loop-one.one-index c.one-item.result c.one-item.result c.loop-one.values.items c.in_ok-one_view.field-0 (search rules) (search rules) c.loop-one.invariant c.in_ok-one_view.ensures.read c.in_ok-one_view.ensures.depth c.in_ok-one_view.ensures.said)

pub returns-in_err-one_view-clause-unsaid : goal.returns-in_err-one_view-clause-unsaid
returns-in_err-one_view-clause-unsaid c h = one_unsaid IsSaidView c.args.views.now c.loop-one.one-index c.one-item.result c.one-item.result (search rules) (search rules) (search rules)

pub returns-clause-said : goal.returns-clause-said
returns-clause-said c = all_said IsSaidView c.args.views.now c.loop-one.one-index (search rules) c.loop-one.invariant.1
