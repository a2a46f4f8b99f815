use Rattle.std.proofs.lemmas.Result.{IfOk-weaker}
use Rattle.command_words.proofs.BuilderLemmas.{conflicting}
use Rattle.command_words.proofs.arguments.unless_rounds.Goals as goal

pub returns : goal.returns
returns c =
    λ rule is. IfOk-weaker c.conflicts_with.result _ _ (λ r adds. conflicting rule c.args.arg r _ is adds) c.conflicts_with.ensures
