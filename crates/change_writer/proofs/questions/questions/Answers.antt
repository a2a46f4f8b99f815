use Rattle.std.proofs.Common.{Ok, rules, refl, arith}
use Rattle.change_file.specs.Questions.{question_of}
use Rattle.change_writer.specs.Said.{IsSaidQuestion}
use Rattle.change_writer.proofs.Lists.{one_written, one_unsaid, all_said}
use Rattle.change_writer.proofs.questions.questions.Goals as goal

pub loop-one-preserved : goal.loop-one-preserved
loop-one-preserved c =
    rw c.in_ok-push.ensures.items (one_written question_of (λ q. Ok q) IsSaidQuestion 2 c.args.questions.now c.loop-one.one-index c.one-item.result c.one-item.result c.loop-one.values.items c.in_ok-question.field-0 (search rules) (search rules) c.loop-one.invariant c.in_ok-question.ensures.read c.in_ok-question.ensures.depth c.in_ok-question.ensures.said)
