use Rattle.old_clients.proofs.Menus.{error_stays}
use Rattle.old_clients.proofs.laws.errors_stay.Goals as goal

pub returns : goal.returns
returns c = error_stays
