use Rattle.std.proofs.Common.{◌≡◌, ◌≤◌, ◌+◌, ◌*◌, ◌++◌, length, take}
use Rattle.std.specs.Prelude.{flat_map}
use Rattle.site_records.specs.Records.{view_head}
use Rattle.site_records.proofs.record_writing.put_views.Given as goal

abbrev pub invariant-loop-view : goal.invariant-loop-view
invariant-loop-view l = (l.out.items ≡ l.fn.out.items ++ flat_map view_head (take l.view-index l.views)) × (length l.out.items ≤ length l.fn.out.items + 56 * l.view-index)
