use Rattle.std.proofs.Common.{ap, subst, ◌∙◌, arith}
use Rattle.site_records.specs.Reading.{Gives, questions_at}
use Rattle.site_records.specs.Limits.{are_questions}
use Rattle.site_records.specs.Records.{questions_bytes}
use Rattle.site_records.proofs.Loops.{lacks_for}
use Rattle.site_records.proofs.QuestionLaws.{questions_take, questions_found, questions_again, questions_short}
use Rattle.site_records.proofs.question_reading.read_questions.Goals as goal

pub returns-clause-found : goal.returns-clause-found
returns-clause-found c = questions_found c.args.bytes.now c.all_questions.result (λ i. omega (arith, c.type_inv.bytes i)) c.all_questions.ensures

pub returns-clause-only : goal.returns-clause-only
returns-clause-only c = λ qs fits e. subst (λ f. Gives (λ x. x) c.all_questions.result f) (ap questions_at e ∙ questions_again qs fits) c.all_questions.ensures

pub returns-clause-short : goal.returns-clause-short
returns-clause-short c = questions_short c.args.bytes.now c.all_questions.result (λ i. omega (arith, c.type_inv.bytes i)) c.all_questions.ensures

pub returns-clause-memory : goal.returns-clause-memory
returns-clause-memory c = lacks_for are_questions questions_bytes c.args.bytes.now (questions_at c.args.bytes.now) (λ x found. questions_take c.args.bytes.now x (λ i. omega (arith, c.type_inv.bytes i)) found) c.all_questions.result c.all_questions.ensures
