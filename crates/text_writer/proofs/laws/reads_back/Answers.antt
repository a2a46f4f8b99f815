use Rattle.text_writer.proofs.ClientReads.{client_reads}
use Rattle.text_writer.proofs.laws.reads_back.Goals as goal

pub returns : goal.returns
returns c = client_reads
