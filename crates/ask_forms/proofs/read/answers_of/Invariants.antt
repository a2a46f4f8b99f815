use Rattle.std.proofs.Common.{◌≡◌, drop}
use Rattle.ask_forms.specs.Reading.{answers_of}
use Rattle.ask_forms.proofs.Steps.{onto_all}
use Rattle.ask_forms.proofs.read.answers_of.Given as goal

-- the answers so far, and those of the questions and lines that are left, are all
abbrev pub invariant-loop-question : goal.invariant-loop-question
invariant-loop-question l = onto_all l.answers (answers_of (drop l.question-index l.questions) l.rest) ≡ answers_of l.fn.questions l.fn.lines
