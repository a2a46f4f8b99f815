use Rattle.std.proofs.Common.{Ok, rules, refl, arith}
use Rattle.toml.specs.Data.{as_str}
use Rattle.std.specs.Str.{IsUtf8}
use Rattle.change_writer.proofs.Lists.{one_same, one_unsaid, all_said}
use Rattle.change_writer.proofs.questions.texts.Goals as goal

pub loop-one-preserved : goal.loop-one-preserved
loop-one-preserved c =
    rw c.in_ok-push.ensures.items (one_same as_str IsUtf8 0 c.args.texts.now c.loop-one.one-index c.one-item.result c.one-item.result c.loop-one.values.items c.in_ok-text.field-0 (search rules) (search rules) c.loop-one.invariant (search rules) (search rules) (search rules))

pub returns-in_err-text-clause-unsaid : goal.returns-in_err-text-clause-unsaid
returns-in_err-text-clause-unsaid c h = one_unsaid IsUtf8 c.args.texts.now c.loop-one.one-index c.one-item.result c.one-item.result (search rules) (search rules) (search rules)

pub returns-clause-said : goal.returns-clause-said
returns-clause-said c = all_said IsUtf8 c.args.texts.now c.loop-one.one-index (search rules) c.loop-one.invariant.1
