use Rattle.std.proofs.Common.{◌≡◌, take}
use Rattle.site_records.proofs.view_reading.owned_views.Given as goal

abbrev pub invariant-loop-view : goal.invariant-loop-view
invariant-loop-view l = l.views ≡ take l.view-index l.lent
