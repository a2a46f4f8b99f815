use Rattle.group_world.proofs.Crashes.{calls_leave}
use Rattle.group_world.proofs.Stored.{what_is_stored_is_right}
use Rattle.group_world.proofs.laws.calls_leave.Goals as goal

pub returns-clause-stored : goal.returns-clause-stored
returns-clause-stored g c = λ k w e. what_is_stored_is_right _

pub returns-clause-at_crash : goal.returns-clause-at_crash
returns-clause-at_crash g c = calls_leave _ _ _
