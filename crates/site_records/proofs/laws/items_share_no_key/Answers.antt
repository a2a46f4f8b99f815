use Rattle.site_records.specs.LayoutLaws.{share_no_key}
use Rattle.site_records.proofs.laws.items_share_no_key.Goals as goal

pub returns : goal.returns
returns c = share_no_key
