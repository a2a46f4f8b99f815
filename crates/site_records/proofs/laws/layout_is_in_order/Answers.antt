use Rattle.site_records.specs.LayoutLaws.{is_sorted-layout}
use Rattle.site_records.proofs.laws.layout_is_in_order.Goals as goal

pub returns : goal.returns
returns c = is_sorted-layout
