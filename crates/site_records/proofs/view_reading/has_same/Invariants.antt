use Rattle.std.proofs.Common.{◌≡◌, take, false}
use Rattle.std.specs.List.{list_any}
use Rattle.site_records.specs.Limits.{is_same_face}
use Rattle.site_records.proofs.view_reading.has_same.Given as goal

abbrev pub invariant-loop-other : goal.invariant-loop-other
invariant-loop-other l = list_any (is_same_face l.view) (take l.other-index l.views) ≡ false
