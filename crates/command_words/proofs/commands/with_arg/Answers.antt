use Rattle.std.proofs.lemmas.Result.{IfOk-at_ok, IfOk-from_err, IfOk-weaker}
use Rattle.command_words.specs.CommandLine.{IsApp}
use Rattle.command_words.proofs.BuilderLemmas as lemma
use Rattle.command_words.proofs.commands.with_arg.Goals as goal

pub returns-in_err-command : goal.returns-in_err-command
returns-in_err-command c = λ app rule is is_arg. IfOk-from_err c.from_residual.result _ c.from_residual.ensures.0

pub returns : goal.returns
returns c = λ app rule is is_arg.
    let old = IfOk-at_ok (IsApp app) c.in_ok-command.was is in
    IfOk-weaker c.arg.result _ _ (λ r adds. lemma.with_arg app rule c.in_ok-command.field-0 r c.args.arg old is_arg adds) c.arg.ensures
