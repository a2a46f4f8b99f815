use Rattle.std.proofs.Common.{codes, refl}
use Rattle.clap.specs.Words.{found_of, rows_of}
use Rattle.command_words.proofs.FoundLemmas.{found_text, gives_none, no_text, not_both}
use Rattle.command_words.proofs.TaskLemmas.{get_needs, named_view, no_image, two_words}
use Rattle.command_words.proofs.tasks.get_task.Goals as goal

pub returns-in_err-get_str : goal.returns-in_err-get_str
returns-in_err-get_str c =
    let none = no_text (found_of c.args.matches.now) (codes "IMAGE") c.get_str.result c.get_str.ensures c.in_err-get_str.was in
    gives_none _ _ c.from_residual.ensures (no_image (codes "get") (rows_of (found_of c.args.matches.now)) none (two_words (codes "get") (codes "get") (codes "replay") refl refl) (two_words (codes "get") (codes "get") (codes "import") refl refl))

pub returns-in_err-get_str-2 : goal.returns-in_err-get_str-2
returns-in_err-get_str-2 c =
    let none = no_text (found_of c.args.matches.now) (codes "SELECTOR") c.get_str-2.result c.get_str-2.ensures c.in_err-get_str-2.was in
    gives_none _ _ c.from_residual-in_err-get_str-2.ensures (λ t asks. not_both _ _ none (get_needs (codes "get") (rows_of (found_of c.args.matches.now)) refl t asks).1)

pub returns : goal.returns
returns c =
    (refl, found_text (found_of c.args.matches.now) (codes "IMAGE") c.get_str.result _ c.get_str.ensures c.in_ok-get_str.was, found_text (found_of c.args.matches.now) (codes "SELECTOR") c.get_str-2.result _ c.get_str-2.ensures c.in_ok-get_str-2.was, named_view (found_of c.args.matches.now) (codes "view") c.get_str-3.result c.get_str-3.ensures)
