use Rattle.accepted_changes.proofs.Runs.{accepted_are_valid, accepted_are_in_order}
use Rattle.accepted_changes.proofs.SingleChanges.{each_is_one_change}
use Rattle.accepted_changes.proofs.laws.accepted_are_valid.Goals as goal

pub returns-clause-valid : goal.returns-clause-valid
returns-clause-valid g c = accepted_are_valid

pub returns-clause-in_order : goal.returns-clause-in_order
returns-clause-in_order g c = accepted_are_in_order

pub returns-clause-one_each : goal.returns-clause-one_each
returns-clause-one_each g c = each_is_one_change
