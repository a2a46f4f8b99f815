use Rattle.command_words.proofs.BuilderLemmas.{some_values_arg}
use Rattle.command_words.proofs.arguments.some_values.Goals as goal

pub returns : goal.returns
returns c = λ rule is. some_values_arg rule c.args.arg c.num_args.result is c.num_args.ensures.0 c.num_args.ensures.1
