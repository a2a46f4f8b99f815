use Rattle.std.proofs.Common.{◌-◌, length}
use Rattle.request_reader.specs.Scanned.{IsScannedTo}
use Rattle.request_reader.proofs.period.scan.Given as goal

abbrev pub decreases-loop-at : goal.decreases-loop-at
decreases-loop-at l = length l.bytes - l.at

abbrev pub invariant-loop-at : goal.invariant-loop-at
invariant-loop-at l = IsScannedTo l.bytes l.at
