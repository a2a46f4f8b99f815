use Rattle.old_clients.proofs.Fetches.{line_fetches}
use Rattle.old_clients.proofs.laws.rewritten_lines_are_fetches.Goals as goal

pub returns : goal.returns
returns c = line_fetches
