use Rattle.std.proofs.Common.{◌≡◌, ◌≤◌, Some, Ok, map, take}
use Rattle.std.specs.List.{All}
use Rattle.toml.specs.Data.{items_depth}
use Rattle.toml.specs.View.{view, items_view}
use Rattle.change_file.specs.Tables.{each}
use Rattle.change_file.specs.Entries.{entry_of}
use Rattle.change_writer.specs.Said.{IsSaidEntry}
use Rattle.change_writer.proofs.entries.entries.Given as goal

abbrev pub invariant-loop-one : goal.invariant-loop-one
invariant-loop-one l = ((each entry_of (map view l.values.items) ≡ Some (map (λ e. Ok e) (take l.one-index l.entries))) × (items_depth (items_view l.values.items) ≤ 1)) × All IsSaidEntry (take l.one-index l.entries)
