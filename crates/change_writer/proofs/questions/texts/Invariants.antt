use Rattle.std.proofs.Common.{◌≡◌, ◌≤◌, Some, map, take}
use Rattle.std.specs.List.{All}
use Rattle.std.specs.Str.{IsUtf8}
use Rattle.toml.specs.Data.{items_depth, as_str}
use Rattle.toml.specs.View.{view, items_view}
use Rattle.change_file.specs.Tables.{each}
use Rattle.change_writer.proofs.questions.texts.Given as goal

abbrev pub invariant-loop-one : goal.invariant-loop-one
invariant-loop-one l = ((each as_str (map view l.values.items) ≡ Some (take l.one-index l.texts)) × (items_depth (items_view l.values.items) ≤ 0)) × All IsUtf8 (take l.one-index l.texts)
