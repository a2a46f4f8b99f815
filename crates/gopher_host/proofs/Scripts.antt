-- A script over an image that is named, or over none.
use Rattle.std.proofs.Common.{ℕ, List, Bool, Option, Some, None}
use Rattle.std.specs.Prelude.{IfSome}
use Rattle.std.specs.Borrow.{Bor}
use Rattle.command_words.specs.declared.words.Task.TheVariants as task
use Rattle.gopher_host.specs.Tasks.{IfScript}

pub script_of : (image : Option (Bor (List ℕ))) (group : Bool) (Holds : List ℕ → Bool → Type 0) → IfSome image (λ i. Holds i.now group) → IfScript (task.Replay image group) Holds
script_of None group Holds h = tt
script_of (Some i) group Holds h = h
