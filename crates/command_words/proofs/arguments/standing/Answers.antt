use Rattle.command_words.proofs.BuilderLemmas.{standing_arg}
use Rattle.command_words.proofs.arguments.standing.Goals as goal

pub returns : goal.returns
returns c = λ rule is. standing_arg rule c.args.value c.args.arg c.required.result c.default_value.result c.hide_default_value.result _ is c.required.ensures c.default_value.ensures c.hide_default_value.ensures
