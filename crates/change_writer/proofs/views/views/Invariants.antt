use Rattle.std.proofs.Common.{◌≡◌, ◌≤◌, Some, map, take}
use Rattle.std.specs.List.{All}
use Rattle.toml.specs.Data.{items_depth}
use Rattle.toml.specs.View.{view, items_view}
use Rattle.change_file.specs.Tables.{each}
use Rattle.change_file.specs.Views.{view_of}
use Rattle.change_writer.specs.Said.{IsSaidView}
use Rattle.change_writer.proofs.views.views.Given as goal

abbrev pub invariant-loop-one : goal.invariant-loop-one
invariant-loop-one l = ((each view_of (map view l.values.items) ≡ Some (take l.one-index l.views)) × (items_depth (items_view l.values.items) ≤ 1)) × All IsSaidView (take l.one-index l.views)
