use Rattle.view_draws.proofs.Chunks.{chunk_length}
use Rattle.view_draws.proofs.source.chunk_length.Goals as goal

pub returns-clause-length : goal.returns-clause-length
returns-clause-length c body is = chunk_length body c.args.k c.min.result c.args.size is c.min.ensures
