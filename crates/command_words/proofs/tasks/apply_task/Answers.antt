use Rattle.std.proofs.Common.{codes, refl}
use Rattle.clap.specs.Words.{found_of, rows_of}
use Rattle.command_words.proofs.FoundLemmas.{found_text, gives_none, no_text, not_both}
use Rattle.command_words.proofs.TaskLemmas.{apply_needs, named_view, no_image, two_words}
use Rattle.command_words.proofs.tasks.apply_task.Goals as goal

pub returns-in_err-get_str : goal.returns-in_err-get_str
returns-in_err-get_str c =
    let none = no_text (found_of c.args.matches.now) (codes "IMAGE") c.get_str.result c.get_str.ensures c.in_err-get_str.was in
    gives_none _ _ c.from_residual.ensures (no_image (codes "apply") (rows_of (found_of c.args.matches.now)) none (two_words (codes "apply") (codes "apply") (codes "replay") refl refl) (two_words (codes "apply") (codes "apply") (codes "import") refl refl))

pub returns-in_err-get_str-2 : goal.returns-in_err-get_str-2
returns-in_err-get_str-2 c =
    let none = no_text (found_of c.args.matches.now) (codes "FILE") c.get_str-2.result c.get_str-2.ensures c.in_err-get_str-2.was in
    gives_none _ _ c.from_residual-in_err-get_str-2.ensures (λ t asks. not_both _ _ none (apply_needs (codes "apply") (rows_of (found_of c.args.matches.now)) refl t asks).has_file)

pub returns-in_err-moment : goal.returns-in_err-moment
returns-in_err-moment c =
    gives_none _ _ c.from_residual-in_err-moment.ensures (λ t asks. c.in_err-moment.ensures _ (apply_needs (codes "apply") (rows_of (found_of c.args.matches.now)) refl t asks).has_now)

pub returns : goal.returns
returns c =
    (refl, found_text (found_of c.args.matches.now) (codes "IMAGE") c.get_str.result _ c.get_str.ensures c.in_ok-get_str.was, found_text (found_of c.args.matches.now) (codes "FILE") c.get_str-2.result _ c.get_str-2.ensures c.in_ok-get_str-2.was, c.in_ok-moment.ensures, named_view (found_of c.args.matches.now) (codes "admin") c.get_str-3.result c.get_str-3.ensures)
