use Rattle.std.proofs.Common.{◌≡◌, ◌-◌, ◌+◌, List, false, eqb, length, suc, sym, subst, ◌∙◌, arith}
use Rattle.host_types.specs.declared.form.Question.{Question}
use Rattle.site_records.specs.Lent.{lent_question}
use Rattle.site_records.specs.Field.{until_end, with_all}
use Rattle.site_records.specs.Reading.{question_at}
use Rattle.site_records.proofs.Loops.{until_more}
use Rattle.site_records.proofs.question_reading.questions_within.Goals as goal

pub loop-count-preserved : goal.loop-count-preserved
loop-count-preserved c =
    let t = c.loop-count-test.true in
    let all = until_end question_at c.args.most c.args.bytes.now in
    let is : c.args.most - c.loop-count.count ≡ suc (c.args.most - (c.loop-count.count + 1)) = omega (arith, t) in
    let more : eqb (length c.loop-count.rest.now) 0 ≡ false = sym c.is_empty.ensures ∙ c.if-is_empty.false in
    subst (λ (l : List Question). with_all l (until_end question_at (c.args.most - (c.loop-count.count + 1)) c.in_ok-question.behind.now) ≡ all) (sym c.in-Ok.ensures)
    (until_more question_at c.loop-count.questions (c.args.most - c.loop-count.count) (c.args.most - (c.loop-count.count + 1)) (lent_question c.in_ok-question.question) c.loop-count.rest.now c.in_ok-question.behind.now all is more c.in_ok-question.ensures c.loop-count.invariant)
