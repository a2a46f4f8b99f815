use Rattle.std.proofs.Common.{rules, ◌≡◌, ◌+◌, ◌-◌, suc, sym, ◌∙◌, arith}
use Rattle.std.specs.Prelude.{option_copied}
use Rattle.tree_nodes.proofs.LeafWalks.{first_stands, next_rises}
use Rattle.tree_nodes.proofs.leaf_form.after_between.Goals as goal

pub loop-init : goal.loop-init
loop-init c =
    let some = c.if-count-lt1.false in
    first_stands c.args.count (c.args.count - 1) c.args.bytes.now c.in_ok-first.after.now c.args.low.now (option_copied c.args.high) (c.in_ok-first.first.now, c.in_ok-first.field-0-0-1.now) (omega (arith, some)) (sym c.in_ok-first.ensures) (search rules)

pub loop-preserved : goal.loop-preserved
loop-preserved c =
    let t = c.loop-test.true in
    let is : c.args.count - c.loop.counter ≡ suc (c.args.count - (c.loop.counter + 1)) = omega (arith, t) in
    next_rises (c.args.count - c.loop.counter) (c.args.count - (c.loop.counter + 1)) c.loop.rest.now c.in_ok-key.after.now c.loop.last.now (option_copied c.args.high) (c.in_ok-key.key.now, c.in_ok-key.field-0-0-1.now) is (sym c.in_ok-key.ensures) (search rules)
    ∙ c.loop.invariant
