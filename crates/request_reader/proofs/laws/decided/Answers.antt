use Rattle.request_reader.proofs.GrowingStreams.{decided_lem}
use Rattle.request_reader.proofs.laws.decided.Goals as goal

pub returns : goal.returns
returns c = decided_lem
