use Rattle.std.proofs.Common.{refl}
use Rattle.std.proofs.lemmas.Result.{IfOk-weaker}
use Rattle.command_words.proofs.BuilderLemmas.{needing, needs_alone}
use Rattle.command_words.proofs.arguments.in_rounds.Goals as goal

pub returns-clause-rule : goal.returns-clause-rule
returns-clause-rule c =
    IfOk-weaker c.requires_arg.result _ _ (λ r adds. needing _ c.number.result r _ c.number.ensures adds) c.requires_arg.ensures

pub returns-clause-other : goal.returns-clause-other
returns-clause-other c =
    IfOk-weaker c.requires_arg.result _ _ (λ r adds. needs_alone _ c.number.result r _ refl c.number.ensures adds) c.requires_arg.ensures
