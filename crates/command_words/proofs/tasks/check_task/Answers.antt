use Rattle.std.proofs.Common.{codes, refl}
use Rattle.clap.specs.Words.{found_of, rows_of}
use Rattle.command_words.proofs.FoundLemmas.{found_text, gives_none, no_text}
use Rattle.command_words.proofs.TaskLemmas.{no_image, two_words}
use Rattle.command_words.proofs.tasks.check_task.Goals as goal

pub returns-in_err-image : goal.returns-in_err-image
returns-in_err-image c =
    let none = no_text (found_of c.args.matches.now) (codes "IMAGE") c.get_str.result c.get_str.ensures c.in_err-image.was in
    gives_none _ _ c.from_residual.ensures (no_image (codes "check") (rows_of (found_of c.args.matches.now)) none (two_words (codes "check") (codes "check") (codes "replay") refl refl) (two_words (codes "check") (codes "check") (codes "import") refl refl))

pub returns : goal.returns
returns c =
    (refl, found_text (found_of c.args.matches.now) (codes "IMAGE") c.get_str.result _ c.get_str.ensures c.in_ok-image.was)
