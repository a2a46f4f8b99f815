use Rattle.std.proofs.Common.{◌≡◌, take, true}
use Rattle.std.specs.List.{list_all}
use Rattle.host_types.specs.Items.{is_title, prompt_of}
use Rattle.host_types.proofs.typed.valid_questions.Given as goal

abbrev pub invariant-loop-question : goal.invariant-loop-question
invariant-loop-question l = list_all (λ q. is_title (prompt_of q)) (take l.question-index l.questions) ≡ true
