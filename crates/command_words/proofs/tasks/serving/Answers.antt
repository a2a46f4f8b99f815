use Rattle.std.proofs.Common.{codes, refl}
use Rattle.clap.specs.Words.{found_of, rows_of}
use Rattle.command_words.proofs.FoundLemmas.{found_number, gives_none, no_number}
use Rattle.command_words.proofs.TaskLemmas.{rounds_need}
use Rattle.command_words.proofs.tasks.serving.Goals as goal

pub returns-in_default : goal.returns-in_default
returns-in_default c =
    c.serving_clients.ensures (no_number 32 (found_of c.args.matches.now) (codes "rounds") c.get_one.result c.get_one.ensures.value c.in_default.is)

pub returns-in_err-get_one : goal.returns-in_err-get_one
returns-in_err-get_one c =
    let rounds = found_number 32 (found_of c.args.matches.now) (codes "rounds") c.get_one.result _ c.get_one.ensures.none c.get_one.ensures.value c.in-Some.is in
    let none = no_number 32 (found_of c.args.matches.now) (codes "together") c.get_one-2.result c.get_one-2.ensures.value c.in_err-get_one.was in
    gives_none _ _ c.from_residual.ensures (λ t asks. let needs = rounds_need c.args.image.now (rows_of (found_of c.args.matches.now)) _ rounds t asks in none needs.0 needs.1)

pub returns : goal.returns
returns c =
    let rounds = found_number 32 (found_of c.args.matches.now) (codes "rounds") c.get_one.result _ c.get_one.ensures.none c.get_one.ensures.value c.in-Some.is in
    (refl, found_number 32 (found_of c.args.matches.now) (codes "together") c.get_one-2.result _ c.get_one-2.ensures.none c.get_one-2.ensures.value c.in_ok-get_one.was, rounds)
