use Rattle.std.proofs.Common.{codes, refl}
use Rattle.clap.specs.Words.{found_of, rows_of}
use Rattle.command_words.proofs.FoundLemmas.{found_text, gives_none, no_text}
use Rattle.command_words.proofs.TaskLemmas.{no_image, served, two_words}
use Rattle.command_words.proofs.tasks.serve_task.Goals as goal

pub returns-in_err-get_str : goal.returns-in_err-get_str
returns-in_err-get_str c =
    let none = no_text (found_of c.args.matches.now) (codes "IMAGE") c.get_str.result c.get_str.ensures c.in_err-get_str.was in
    gives_none _ _ c.from_residual.ensures (no_image (codes "serve") (rows_of (found_of c.args.matches.now)) none (two_words (codes "serve") (codes "serve") (codes "replay") refl refl) (two_words (codes "serve") (codes "serve") (codes "import") refl refl))

pub returns : goal.returns
returns c =
    served (codes "serve") (rows_of (found_of c.args.matches.now)) _ c.serving.result refl (found_text (found_of c.args.matches.now) (codes "IMAGE") c.get_str.result _ c.get_str.ensures c.in_ok-get_str.was) c.serving.ensures
