use Rattle.site_records.specs.LayoutLaws.{value_at-with_item, value_at-without_item}
use Rattle.site_records.proofs.laws.layouts_change.Goals as goal

pub returns : goal.returns
returns c = λ s sorted. record {
  put = λ selector item key. value_at-with_item s selector item key sorted;
  gone = λ selector key. value_at-without_item s selector key sorted;
}
