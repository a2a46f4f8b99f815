use Rattle.request_reader.proofs.GrowingStreams.{closed_verdict_stays_lem}
use Rattle.request_reader.proofs.laws.closed_verdict_stays.Goals as goal

pub returns : goal.returns
returns c = closed_verdict_stays_lem
