use Rattle.old_clients.proofs.Menus.{menu_informed}
use Rattle.old_clients.proofs.laws.menus_are_informed.Goals as goal

pub returns : goal.returns
returns c = menu_informed
