use Rattle.std.proofs.Common.{◌≡◌, ◌≤◌, Some, Ok, map, take}
use Rattle.std.specs.List.{All}
use Rattle.toml.specs.Data.{items_depth}
use Rattle.toml.specs.View.{view, items_view}
use Rattle.change_file.specs.Tables.{each}
use Rattle.change_file.specs.Questions.{question_of}
use Rattle.change_writer.specs.Said.{IsSaidQuestion}
use Rattle.change_writer.proofs.questions.questions.Given as goal

abbrev pub invariant-loop-one : goal.invariant-loop-one
invariant-loop-one l = ((each question_of (map view l.values.items) ≡ Some (map (λ q. Ok q) (take l.one-index l.questions))) × (items_depth (items_view l.values.items) ≤ 2)) × All IsSaidQuestion (take l.one-index l.questions)
