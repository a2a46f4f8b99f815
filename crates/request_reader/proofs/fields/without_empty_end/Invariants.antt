use Rattle.std.proofs.Common.{◌≡◌, length}
use Rattle.std.specs.List.{slice_split}
use Rattle.request_reader.specs.RequestLine.{is_tab, without_empty_end}
use Rattle.request_reader.proofs.fields.without_empty_end.Given as goal

-- the empty fields at the end come and go
abbrev pub invariant-loop-left : goal.invariant-loop-left
invariant-loop-left l = without_empty_end (slice_split is_tab l.left) ≡ without_empty_end (slice_split is_tab l.fn.line)

abbrev pub decreases-loop-left : goal.decreases-loop-left
decreases-loop-left l = length l.left
