use Rattle.url_page.proofs.Reading.{reads_back}
use Rattle.url_page.proofs.laws.reads_back.Goals as goal

pub returns : goal.returns
returns c = reads_back
