use Rattle.std.proofs.Common.{◌≡◌, ◌+◌, take}
use Rattle.site_records.specs.Limits.{all_lengths}
use Rattle.site_records.proofs.view_reading.are_larger.Given as goal

abbrev pub invariant-loop-view : goal.invariant-loop-view
invariant-loop-view l = l.room + all_lengths (take l.view-index l.views) ≡ l.most
