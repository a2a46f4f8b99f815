use Rattle.accepted_changes.proofs.Crashes.{crashes_leave_a_prefix}
use Rattle.accepted_changes.proofs.laws.crashes_leave_a_prefix.Goals as goal

pub returns : goal.returns
returns g c = crashes_leave_a_prefix _ _
