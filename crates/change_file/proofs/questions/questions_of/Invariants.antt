use Rattle.std.proofs.Common.{◌≡◌, Some, map, take}
use Rattle.toml.specs.View.{view}
use Rattle.change_file.specs.Tables.{each}
use Rattle.change_file.specs.Questions.{question_of}
use Rattle.change_file.proofs.questions.questions_of.Given as goal

abbrev pub invariant-loop-value : goal.invariant-loop-value
invariant-loop-value l = each question_of (map view (take l.value-index l.values)) ≡ Some l.questions.items
