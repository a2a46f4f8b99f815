-- What is read before memory is asked for: questions and bodies that still lie in their bytes, as what they are.
use Rattle.host_types.specs.declared.form.Question.{Question}
use Rattle.host_types.specs.declared.form.Question.TheVariants as questions
use Rattle.site_records.specs.declared.lent_question.LentQuestion.{LentQuestion}
use Rattle.site_records.specs.declared.lent_question.LentQuestion.TheVariants as lent
use Rattle.site_records.specs.declared.lent_record.LentBody.{LentBody}
use Rattle.site_records.specs.declared.lent_record.LentBody.TheVariants as bodies
use Rattle.site_records.specs.declared.record.RecordBody.{RecordBody}
use Rattle.site_records.specs.declared.record.RecordBody.TheVariants as kept

abbrev pub lent_question : LentQuestion → Question
lent_question (lent.Ask prompt) = questions.Ask prompt
lent_question (lent.AskL prompt) = questions.AskL prompt
lent_question (lent.AskP prompt word) = questions.AskP prompt word
lent_question (lent.Choose prompt choices) = questions.Choose prompt choices.items

abbrev pub lent_body : LentBody → RecordBody
lent_body (bodies.Views kind views) = kept.Views kind views.items
lent_body (bodies.Menu size) = kept.Menu size
lent_body (bodies.Board cap next) = kept.Board cap next
lent_body (bodies.Form board size) = kept.Form board size
lent_body (bodies.Search scope) = kept.Search scope
lent_body (bodies.Moved target) = kept.Moved target
