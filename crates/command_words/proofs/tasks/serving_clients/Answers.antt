use Rattle.std.proofs.Common.{refl}
use Rattle.clap.specs.Words.{found_of, rows_of}
use Rattle.command_words.proofs.FoundLemmas.{gives_none}
use Rattle.command_words.proofs.TaskLemmas.{clients_need}
use Rattle.command_words.proofs.tasks.serving_clients.Goals as goal

pub returns-in_err-address : goal.returns-in_err-address
returns-in_err-address c =
    λ no_rounds. gives_none _ _ c.from_residual.ensures (λ t asks. let needs = clients_need c.args.image.now (rows_of (found_of c.args.matches.now)) no_rounds t asks in c.in_err-address.ensures needs.0 needs.1)

pub returns : goal.returns
returns c =
    λ no_rounds.
    (refl, no_rounds, c.in_ok-address.ensures, c.is_quiet.ensures, c.per_address.ensures, c.posts_a_minute.ensures, c.for_old_clients.ensures, c.in_common_log.ensures, c.socket_place.ensures)
