use Rattle.sector_device.proofs.OneFails.{only}
use Rattle.sector_device.proofs.laws.only_that_call_fails.Goals as goal

pub returns : goal.returns
returns c = only
