use Rattle.std.proofs.lemmas.Result.{IfOk-at_ok, IfOk-from_err, IfOk-weaker}
use Rattle.command_words.specs.CommandLine.{IsApp, IsCommand}
use Rattle.command_words.proofs.BuilderLemmas as lemma
use Rattle.command_words.proofs.command_line.with_command.Goals as goal

pub returns-in_err-command : goal.returns-in_err-command
returns-in_err-command c = λ app shape is is_sub. IfOk-from_err c.from_residual.result _ c.from_residual.ensures.0

pub returns-in_err-below : goal.returns-in_err-below
returns-in_err-below c = λ app shape is is_sub. IfOk-from_err c.from_residual-in_err-below.result _ c.from_residual-in_err-below.ensures.0

pub returns : goal.returns
returns c = λ app shape is is_sub.
    let old = IfOk-at_ok (IsApp app) c.in_ok-command.was is in
    let sub = IfOk-at_ok (IsCommand shape) c.in_ok-below.was is_sub in
    IfOk-weaker c.subcommand.result _ _ (λ r adds. lemma.with_command app shape c.in_ok-command.field-0 r c.in_ok-below.field-0 old sub adds) c.subcommand.ensures
