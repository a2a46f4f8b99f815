use Rattle.std.proofs.Common.{◌≡◌, Some, map, take}
use Rattle.toml.specs.View.{view}
use Rattle.change_file.specs.Tables.{each}
use Rattle.change_file.specs.Entries.{entry_of}
use Rattle.change_file.proofs.entries.entries_of.Given as goal

abbrev pub invariant-loop-value : goal.invariant-loop-value
invariant-loop-value l = each entry_of (map view (take l.value-index l.values)) ≡ Some l.entries.items
