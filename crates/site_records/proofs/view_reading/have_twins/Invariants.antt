use Rattle.std.proofs.Common.{◌≡◌, length}
use Rattle.site_records.specs.Limits.{have_twins}
use Rattle.site_records.proofs.view_reading.have_twins.Given as goal

abbrev pub invariant-loop-rest : goal.invariant-loop-rest
invariant-loop-rest l = have_twins l.rest ≡ have_twins l.views

abbrev pub decreases-loop-rest : goal.decreases-loop-rest
decreases-loop-rest l = length l.rest
