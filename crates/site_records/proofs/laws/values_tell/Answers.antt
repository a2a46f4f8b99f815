use Rattle.site_records.specs.LayoutLaws.{layout_from_values}
use Rattle.site_records.proofs.laws.values_tell.Goals as goal

pub returns : goal.returns
returns c = layout_from_values
