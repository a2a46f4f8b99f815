use Rattle.group_hub.proofs.CountedRuns.{calls_count_reads, calls_count_writes}
use Rattle.group_hub.proofs.laws.runs_count.Goals as goal

pub returns-clause-reads : goal.returns-clause-reads
returns-clause-reads g c = calls_count_reads _ _ _ _

pub returns-clause-writes : goal.returns-clause-writes
returns-clause-writes g c = calls_count_writes _ _ _ _
