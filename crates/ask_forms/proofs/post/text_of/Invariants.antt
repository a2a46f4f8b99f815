use Rattle.std.proofs.Common.{◌≡◌, map, flat_map}
use Rattle.std.specs.Prelude.{filter}
use Rattle.ask_forms.proofs.Steps.{pair_of, shows, pair_text}
use Rattle.ask_forms.proofs.post.text_of.Given as goal

abbrev pub invariant-loop-question : goal.invariant-loop-question
invariant-loop-question l =
    (goal.iterator-loop-question).can_next l.question-iterator ×
    (goal.iterator-loop-question).is_finite l.question-iterator ×
    (l.text.items ≡ flat_map pair_text (filter shows (map pair_of l.yielded)))
