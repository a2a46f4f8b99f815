use Rattle.std.proofs.Common.{◌≡◌, [], map}
use Rattle.std.specs.Prelude.{filter}
use Rattle.ask_forms.proofs.Steps.{pair_of, shows}
use Rattle.ask_forms.proofs.post.first_shown.Given as goal

abbrev pub invariant-loop-question : goal.invariant-loop-question
invariant-loop-question l =
    (goal.iterator-loop-question).can_next l.question-iterator ×
    (goal.iterator-loop-question).is_finite l.question-iterator ×
    (filter shows (map pair_of l.yielded) ≡ [])
