use Rattle.std.proofs.Common.{◌≡◌, take}
use Rattle.site_records.proofs.lent_question.owned_choices.Given as goal

abbrev pub invariant-loop-word : goal.invariant-loop-word
invariant-loop-word l = l.choices ≡ take l.word-index l.lent
