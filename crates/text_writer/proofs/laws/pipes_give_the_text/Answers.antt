use Rattle.text_writer.proofs.PipeRuns.{run_text, whole_text}
use Rattle.text_writer.proofs.laws.pipes_give_the_text.Goals as goal

pub returns-clause-front : goal.returns-clause-front
returns-clause-front c = run_text

pub returns-clause-whole : goal.returns-clause-whole
returns-clause-whole c = whole_text
