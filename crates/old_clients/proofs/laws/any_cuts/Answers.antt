use Rattle.old_clients.proofs.CallRuns.{input_passed, input_told, reply_given}
use Rattle.old_clients.proofs.laws.any_cuts.Goals as goal

pub returns-clause-passed : goal.returns-clause-passed
returns-clause-passed c = input_passed

pub returns-clause-told : goal.returns-clause-told
returns-clause-told c = input_told

pub returns-clause-given : goal.returns-clause-given
returns-clause-given c = reply_given
