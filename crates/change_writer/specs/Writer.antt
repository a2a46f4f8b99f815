-- The changes of a file that is being made.
use Rattle.std.specs.Prelude.{ℕ, List, [], map, Option, Some, None}
use Rattle.toml.specs.Data.{items_depth}
use Rattle.toml.specs.View.{view, items_view}
use Rattle.toml.specs.declared.value.Value.{Value}
use Rattle.change_file.specs.Tables.{each}
use Rattle.change_file.specs.Changes.{change_of}
use Rattle.change_file.specs.declared.fault.FileChange.{FileChange}

-- what all tables are read as, where each is read
abbrev pub all_read : List Value → Option (List FileChange)
all_read tables = each change_of (map view tables)

abbrev pub or_none : {A : Type 0} → Option (List A) → List A
or_none None = []
or_none (Some xs) = xs

abbrev pub changes_in : List Value → List FileChange
changes_in tables = or_none (all_read tables)

abbrev pub tables_depth : List Value → ℕ
tables_depth tables = items_depth (items_view tables)
