use Rattle.std.proofs.Common.{refl}
use Rattle.std.specs.Fmt.{digits}
use Rattle.text_writer.specs.Text.{text}
use Rattle.text_writer.specs.Menu.{menu}
use Rattle.text_writer.specs.Errors.{plain_error, plus_error, words_of}
use Rattle.text_writer.proofs.laws.worked_examples.Goals as goal

pub returns-clause-texts : goal.returns-clause-texts
unfolding text
returns-clause-texts c = record { doubled_period = refl; nothing = refl; long_line = refl; inner_period = refl; last_cr = refl; read_back = refl }

pub returns-clause-menus : goal.returns-clause-menus
unfolding digits menu plain_error plus_error words_of
returns-clause-menus c = record { document = refl; form = refl; missing = refl; moved = refl; info = refl; url = refl; remote = refl; top = refl; no_entries = refl; plain_error = refl; plus_error = refl; plain_move = refl; plus_move = refl }
