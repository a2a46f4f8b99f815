use Rattle.std.proofs.Common.{codes}
use Rattle.clap.specs.Words.{found_of}
use Rattle.command_words.proofs.FoundLemmas.{found_number, gives_none, no_number, no_number_at_all, no_text}
use Rattle.command_words.proofs.tasks.moment.Goals as goal

pub returns-in_err-get_one-in-Some : goal.returns-in_err-get_one-in-Some
returns-in_err-get_one-in-Some c =
    let none = no_number 64 (found_of c.args.matches.now) (codes "now") c.get_one.result c.get_one.ensures.value c.in_err-get_one-in-Some.was in
    gives_none _ _ c.from_residual.ensures (no_number_at_all 64 (found_of c.args.matches.now) (codes "now") c.get_str.result c.in-Some.field-0 c.get_str.ensures c.in-Some.is none)

pub returns-in_ok-get_one-in-Some : goal.returns-in_ok-get_one-in-Some
returns-in_ok-get_one-in-Some c = found_number 64 (found_of c.args.matches.now) (codes "now") c.get_one.result _ c.get_one.ensures.none c.get_one.ensures.value c.in_ok-get_one-in-Some.was

pub returns-in-None : goal.returns-in-None
returns-in-None c = no_text (found_of c.args.matches.now) (codes "now") c.get_str.result c.get_str.ensures c.in-None.is
