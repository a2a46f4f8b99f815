use Rattle.ask_forms.proofs.AnswersRelated.{both}
use Rattle.ask_forms.proofs.laws.reads_answers.Goals as goal

pub returns : goal.returns
returns c = both
