use Rattle.accepted_changes.proofs.Crashes.{next_openings_find_them}
use Rattle.accepted_changes.proofs.laws.next_openings_find_them.Goals as goal

pub returns : goal.returns
returns c = next_openings_find_them
