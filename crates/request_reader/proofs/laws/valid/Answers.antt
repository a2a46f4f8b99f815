use Rattle.request_reader.proofs.WholeRequests.{valid_lem, lines_lem, names_lem}
use Rattle.request_reader.proofs.laws.valid.Goals as goal

pub returns-clause-selector : goal.returns-clause-selector
returns-clause-selector c = valid_lem

pub returns-clause-lines : goal.returns-clause-lines
returns-clause-lines c = lines_lem

pub returns-clause-names : goal.returns-clause-names
returns-clause-names c = names_lem
