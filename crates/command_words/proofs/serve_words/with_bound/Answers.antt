use Rattle.std.proofs.lemmas.Result.{IfOk-at_ok, IfOk-from_err}
use Rattle.command_words.specs.CommandLine.{IsArg}
use Rattle.command_words.proofs.serve_words.with_bound.Goals as goal

pub returns-in_err-arg : goal.returns-in_err-arg
returns-in_err-arg c = λ app rule is arg_is. IfOk-from_err c.from_residual.result _ c.from_residual.ensures.0

pub returns : goal.returns
returns c = λ app rule is arg_is. c.with_arg.ensures app rule is (IfOk-at_ok (IsArg rule) c.in_ok-arg.was arg_is)
