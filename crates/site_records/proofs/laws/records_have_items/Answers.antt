use Rattle.site_records.proofs.Fillers.{an_item}
use Rattle.site_records.proofs.laws.records_have_items.Goals as goal

pub returns : goal.returns
returns c = an_item
