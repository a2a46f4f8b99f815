use Rattle.site_records.proofs.LayoutTells.{each_pair_stands}
use Rattle.site_records.proofs.laws.pairs_stand.Goals as goal

pub returns : goal.returns
returns c = each_pair_stands
