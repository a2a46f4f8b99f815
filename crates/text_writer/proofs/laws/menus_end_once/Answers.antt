use Rattle.text_writer.specs.Menu.{menu}
use Rattle.text_writer.proofs.MenuLines.{ended_once, of_entry, of_item}
use Rattle.text_writer.proofs.laws.menus_end_once.Goals as goal

pub returns-clause-menus : goal.returns-clause-menus
unfolding menu
returns-clause-menus c = ended_once

pub returns-clause-entries : goal.returns-clause-entries
returns-clause-entries c = of_entry

pub returns-clause-items : goal.returns-clause-items
returns-clause-items c = of_item
