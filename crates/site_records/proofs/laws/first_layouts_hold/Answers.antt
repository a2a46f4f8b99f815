use Rattle.site_records.proofs.FirstVersion.{first_layouts}
use Rattle.site_records.proofs.laws.first_layouts_hold.Goals as goal

pub returns : goal.returns
returns c = first_layouts
