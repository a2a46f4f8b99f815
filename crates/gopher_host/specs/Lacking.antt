-- Why the image of a task was not had.
use Rattle.std.specs.Prelude.{◌≡◌, ◌++◌, ◌∷◌, [], ℕ, Bool, true, false, List, Option, Some, None, Result, Err}
use Rattle.std.specs.Option.{option_copied}
use Rattle.file_names.specs.NameCalls.{NameCall, Lacked}
use Rattle.file_names.specs.declared.lacks.Lack.{Lack}
use Rattle.command_words.specs.declared.words.Task.{Task}
use Rattle.command_words.specs.declared.words.Task.TheVariants as task
use Rattle.gopher_host.specs.declared.fault.Fault.{Fault}
use Rattle.gopher_host.specs.declared.fault.Fault.TheVariants as faults

-- the name of a task's image, where it has one
abbrev pub image_of : Task → Option (List ℕ)
image_of (task.Format image site pages now) = Some image.now
image_of (task.Init image site pages now) = Some image.now
image_of (task.Apply image file now socket) = Some image.now
image_of (task.Remove image selectors socket) = Some image.now
image_of (task.Get image selector view) = Some image.now
image_of (task.Posts image board) = Some image.now
image_of (task.Show image long) = Some image.now
image_of (task.Export image) = Some image.now
image_of (task.Import folder under) = None
image_of (task.Check image) = Some image.now
image_of (task.Compact image) = Some image.now
image_of (task.Upgrade image) = Some image.now
image_of (task.Copy image new pages) = Some image.now
image_of (task.Replay image group) = option_copied image
image_of (task.ServeRounds image together rounds) = Some image.now
image_of (task.ServeClients image listen quiet per_address posts old_clients common_log place) = Some image.now

-- whether it makes that image
abbrev pub makes_image : Task → Bool
makes_image (task.Format image site pages now) = true
makes_image (task.Init image site pages now) = true
makes_image _ = false

-- an image was not had for this: one that was to be there, or one that was to be made
abbrev pub not_had : Bool → Lack → Fault
not_had false lack = faults.NotHad lack
not_had true lack = faults.NotMade lack

-- It was looked why the file of this name can't be had, and that is answered.
abbrev pub LooksWhy : {X : Type 0} → List ℕ → Bool → List NameCall → List NameCall → Result X Fault → Type 0
LooksWhy name makes before now result = (lack : Lack) × (now ≡ before ++ Lacked name lack ∷ []) × (result ≡ Err (not_had makes lack))
