use Rattle.site_records.proofs.LayoutTells.{layout_tells}
use Rattle.site_records.proofs.laws.layout_tells.Goals as goal

pub returns : goal.returns
returns c = layout_tells
