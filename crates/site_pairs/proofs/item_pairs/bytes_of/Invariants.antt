use Rattle.std.proofs.Common.{◌≡◌, map, take}
use Rattle.host_types.specs.declared.view.View.{View}
use Rattle.site_pairs.proofs.item_pairs.bytes_of.Given as goal

abbrev pub invariant-loop-view : goal.invariant-loop-view
invariant-loop-view l = l.parts.items ≡ map (λ (v : View). v.bytes) (take l.view-index l.views)
