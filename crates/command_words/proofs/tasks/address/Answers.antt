use Rattle.std.proofs.Common.{codes, refl}
use Rattle.clap.specs.Words.{found_of}
use Rattle.command_words.proofs.FoundLemmas.{found_address, gives_none, no_address, no_text}
use Rattle.command_words.proofs.tasks.address.Goals as goal

pub returns-in_err-ok : goal.returns-in_err-ok
returns-in_err-ok c =
    gives_none _ _ c.from_residual.ensures (λ listen h. no_address (found_of c.args.matches.now) (codes "listen") c.get_str.result c.in-Some.address c.parse.result c.ok.result listen c.get_str.ensures c.in-Some.is c.parse.ensures.value c.ok.ensures.value c.in_err-ok.was h)

pub returns : goal.returns
returns c =
    found_address (found_of c.args.matches.now) (codes "listen") c.get_str.result c.in-Some.address c.parse.result c.ok.result _ _ c.get_str.ensures c.in-Some.is c.parse.ensures.value c.ok.ensures.value c.in_ok-ok.was refl

pub returns-in_default : goal.returns-in_default
returns-in_default c =
    no_text (found_of c.args.matches.now) (codes "listen") c.get_str.result c.get_str.ensures c.in_default.is
