-- How far an administrator's request is.
use Rattle.std.specs.Prelude.{ℕ, Option, Some, None, List, drop}
use Rattle.std.specs.String.{string_bytes}
use Rattle.std.specs.declared.string.String.{String}
use Rattle.change_file.specs.declared.fault.FileChange.{FileChange}
use Rattle.admin_office.specs.Lines.{no_memory}
use Rattle.admin_office.specs.declared.stage.Stage.{Stage}
use Rattle.admin_office.specs.declared.stage.Stage.TheVariants as stages
use Rattle.admin_office.specs.declared.unsent.Unsent.{Unsent}

-- What was heard of it; the office is to hold still; which of its changes are to be made yet, and how many they are in all; what is to be told yet; or its connection is closed.
pub data Task : Type 0 where
  Hearing : List ℕ → Task
  Holding : Task
  Making : List FileChange → ℕ → Task
  Telling : List ℕ → Task
  Over : Task

-- what is told, or that there was no memory for it
abbrev pub told : {A : Type 0} → Option (String A) → List ℕ
told (Some text) = string_bytes text
told None = no_memory

abbrev pub unsent_bytes : Unsent → List ℕ
unsent_bytes unsent = drop unsent.sent (told unsent.text)

abbrev pub task_of : Stage → Task
task_of (stages.Hearing heard) = Hearing heard.items
task_of stages.Holding = Holding
task_of (stages.Making making) = Making making.left.items making.count
task_of (stages.Telling unsent) = Telling (unsent_bytes unsent)
task_of stages.Closed = Over
