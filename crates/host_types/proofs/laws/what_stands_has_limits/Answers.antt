use Rattle.host_types.specs.Standing.{limits_at}
use Rattle.host_types.proofs.laws.what_stands_has_limits.Goals as goal

pub returns : goal.returns
returns c = limits_at
