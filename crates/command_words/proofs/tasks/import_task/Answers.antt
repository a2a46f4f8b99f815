use Rattle.std.proofs.Common.{codes, refl}
use Rattle.clap.specs.Words.{found_of, rows_of}
use Rattle.command_words.proofs.FoundLemmas.{found_text, gives_none, no_text, not_both}
use Rattle.command_words.proofs.TaskLemmas.{import_needs, named_view}
use Rattle.command_words.proofs.tasks.import_task.Goals as goal

pub returns-in_err-get_str : goal.returns-in_err-get_str
returns-in_err-get_str c =
    let none = no_text (found_of c.args.matches.now) (codes "FOLDER") c.get_str.result c.get_str.ensures c.in_err-get_str.was in
    gives_none _ _ c.from_residual.ensures (λ t asks. not_both _ _ none (import_needs (codes "import") (rows_of (found_of c.args.matches.now)) refl t asks).1)

pub returns : goal.returns
returns c =
    (refl, found_text (found_of c.args.matches.now) (codes "FOLDER") c.get_str.result _ c.get_str.ensures c.in_ok-get_str.was, named_view (found_of c.args.matches.now) (codes "under") c.get_str-2.result c.get_str-2.ensures)
