use Rattle.std.proofs.Common.{◌≡◌, Some, map, take}
use Rattle.toml.specs.View.{view}
use Rattle.change_file.specs.Tables.{each}
use Rattle.toml.specs.Data.{as_str}
use Rattle.change_file.proofs.questions.choices_of.Given as goal

abbrev pub invariant-loop-value : goal.invariant-loop-value
invariant-loop-value l = each as_str (map view (take l.value-index l.values)) ≡ Some l.choices.items
