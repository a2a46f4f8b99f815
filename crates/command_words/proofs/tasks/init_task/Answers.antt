use Rattle.std.proofs.Common.{codes, refl}
use Rattle.clap.specs.Words.{found_of, rows_of}
use Rattle.command_words.proofs.FoundLemmas.{found_text, gives_none, no_text}
use Rattle.command_words.proofs.TaskLemmas.{init_needs, no_image, two_words}
use Rattle.command_words.proofs.tasks.init_task.Goals as goal

pub returns-in_err-get_str : goal.returns-in_err-get_str
returns-in_err-get_str c =
    let none = no_text (found_of c.args.matches.now) (codes "IMAGE") c.get_str.result c.get_str.ensures c.in_err-get_str.was in
    gives_none _ _ c.from_residual.ensures (no_image (codes "init") (rows_of (found_of c.args.matches.now)) none (two_words (codes "init") (codes "init") (codes "replay") refl refl) (two_words (codes "init") (codes "init") (codes "import") refl refl))

pub returns-in_err-new_site : goal.returns-in_err-new_site
returns-in_err-new_site c =
    gives_none _ _ c.from_residual-in_err-new_site.ensures (λ t asks. c.in_err-new_site.ensures _ (init_needs (codes "init") (rows_of (found_of c.args.matches.now)) refl t asks).is_site)

pub returns-in_err-pages : goal.returns-in_err-pages
returns-in_err-pages c =
    gives_none _ _ c.from_residual-in_err-pages.ensures (λ t asks. c.in_err-pages.ensures _ (init_needs (codes "init") (rows_of (found_of c.args.matches.now)) refl t asks).has_pages)

pub returns-in_err-moment : goal.returns-in_err-moment
returns-in_err-moment c =
    gives_none _ _ c.from_residual-in_err-moment.ensures (λ t asks. c.in_err-moment.ensures _ (init_needs (codes "init") (rows_of (found_of c.args.matches.now)) refl t asks).has_now)

pub returns : goal.returns
returns c =
    (refl, found_text (found_of c.args.matches.now) (codes "IMAGE") c.get_str.result _ c.get_str.ensures c.in_ok-get_str.was, c.in_ok-new_site.ensures, c.in_ok-pages.ensures, c.in_ok-moment.ensures)
