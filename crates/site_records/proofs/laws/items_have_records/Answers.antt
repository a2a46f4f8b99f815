use Rattle.site_records.proofs.Sizes.{item_record}
use Rattle.site_records.proofs.laws.items_have_records.Goals as goal

pub returns : goal.returns
returns c = item_record
