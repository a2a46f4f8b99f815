use Rattle.std.proofs.Common.{◌≡◌, take, true}
use Rattle.std.specs.List.{list_all}
use Rattle.toml.specs.View.{view}
use Rattle.change_file.specs.Changes.{is_table}
use Rattle.change_file.proofs.changes.are_tables.Given as goal

abbrev pub invariant-loop-value : goal.invariant-loop-value
invariant-loop-value l = list_all (λ v. is_table (view v)) (take l.value-index l.values) ≡ true
