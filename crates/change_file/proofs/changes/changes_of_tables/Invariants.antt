use Rattle.std.proofs.Common.{◌≡◌, Some, map, take}
use Rattle.toml.specs.View.{view}
use Rattle.change_file.specs.Tables.{each}
use Rattle.change_file.specs.Changes.{change_of}
use Rattle.change_file.proofs.changes.changes_of_tables.Given as goal

abbrev pub invariant-loop-place : goal.invariant-loop-place
invariant-loop-place l = each change_of (map view (take l.place l.tables)) ≡ Some l.changes.items
