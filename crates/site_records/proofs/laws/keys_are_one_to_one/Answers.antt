use Rattle.site_records.specs.Keys.{keys_one_to_one}
use Rattle.site_records.proofs.laws.keys_are_one_to_one.Goals as goal

pub returns : goal.returns
returns c = keys_one_to_one
