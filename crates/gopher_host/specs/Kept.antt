-- What `apply` does to the image in a file, whatever it answers.
use Rattle.std.specs.Prelude.{◌≡◌, ◌⊎◌, ◌++◌, ◌∷◌, [], true, ℕ, List, codes, decimal, length, map, Option, Some, Result, Ok, Err, IfOk, IfErr, IsUtf8}
use Rattle.std.specs.declared.alloc.Global.{Global}
use Rattle.std.specs.declared.string.String.{String}
use Rattle.std.specs.declared.io.ErrorKind.{ErrorKind}
use Rattle.change_file.specs.Changes as file
use Rattle.change_file.specs.Changes.{file_change, remove}
use Rattle.change_file.specs.Named.{selector_named}
use Rattle.change_file.specs.Printed.{applied_line}
use Rattle.change_file.specs.declared.fault.ApplyFault.{ApplyFault}
use Rattle.change_file.specs.declared.fault.FileChange.{FileChange}
use Rattle.file_device.specs.FileCalls.{FileHistory, file_state}
use Rattle.file_device.specs.FileUses.{FileUse}
use Rattle.host_on_disk.specs.OpenFaults.{IsOpeningFault, HandsBack}
use Rattle.host_on_disk.specs.declared.open_fault.OpenFault.{OpenFault}
use Rattle.image_runs.specs.ImageChanges.{AppliesToImage}
use Rattle.image_commands.specs.Faults.{of_opening}
use Rattle.image_commands.specs.declared.fault.ImageFault.{ImageFault}
use Rattle.gopher_host.specs.Endings.{GivesCount, given_beside, device_beside}
use Rattle.gopher_host.specs.Faults.{memory_fault}
use Rattle.admin_socket.specs.SocketCalls.{SocketCall, Connected}
use Rattle.gopher_host.specs.Asked.{AsksServer, GivesAnswer, IsNobody, OpensUnasked, PrintsAnswer}
use Rattle.gopher_host.specs.ImageFiles.{IsNotThere, file_crash_states}
use Rattle.gopher_host.specs.Naming.{EndsNamed, file_line, names_line}
use Rattle.gopher_host.specs.Unread.{IsUnsaid}
use Rattle.gopher_host.specs.declared.fault.Fault.{Fault}
use Rattle.gopher_host.specs.declared.fault.Fault.TheVariants as faults

-- A file of changes gives none: why is answered, and nothing is done. Or its bytes say these changes, and this holds of them.
abbrev pub ReadsThen : {X : Type 0} → Result X Fault → Type 0 → (List ℕ → List FileChange → Type 0) → Type 0
ReadsThen result Untouched Holds =
    ((read : Result (List ℕ) ErrorKind) × (refusal : Fault) × (result ≡ Err refusal) × IsUnsaid read refusal × Untouched)
    ⊎ ((bytes : List ℕ) × (changes : List FileChange) × IsUtf8 bytes × (file.read bytes ≡ Some (Ok changes)) × Holds bytes changes)

-- Changes were made on the site of an image, all or those before one that was not, and the line of how many they are is printed, or it is answered which was not made; or the image was refused.
pub record MakesEach {W X : Type 0} (line : ℕ → List ℕ) (contents : W → Option (List ℕ)) (now : ℕ) (old new : W) (result : Result X Fault) (changes : List FileChange) (opened left : FileHistory) : Type 0 where
  pub given : Result (Result ℕ ApplyFault × FileHistory) (OpenFault × FileHistory)
  pub handed : left ≡ device_beside given
  pub printed : GivesCount (given_beside given) line (λ stopped. faults.Stopped stopped) (λ fault. faults.Image (of_opening fault)) contents old new result
  pub applied : IfOk given (λ r. AppliesToImage file_state file_crash_states opened r.1 changes now r.0)
  pub all : IfOk given (λ r. IfOk r.0 (λ count. count ≡ length changes))
  pub refused : IfErr given (λ e. HandsBack IsOpeningFault file_state file_crash_states opened e.1 e.0)

-- those of a file
abbrev pub Applies : {W X : Type 0} → (W → Option (List ℕ)) → ℕ → W → W → Result X Fault → List FileChange → FileHistory → FileHistory → Type 0
Applies contents now old new result changes = MakesEach applied_line contents now old new result changes

-- They were made on the image of this name, or the server was asked for them on the socket of this one, as it ended.
abbrev pub AppliesOrAsks : {W X : Type 0} → (W → Option (List ℕ)) → List ℕ → List ℕ → ℕ → List FileUse → List FileUse → List SocketCall → List SocketCall → W → W → List ℕ → List FileChange → Result X Fault → Type 0
AppliesOrAsks contents image name now before after none sockets old new file changes result =
    OpensUnasked image name before after none sockets old new result (Applies contents now old new result changes)
    ⊎ AsksServer image name file (λ text. text) contents before after none sockets old new result

-- Changes were read from a file, and made so; or it gives none, and nothing is done. A fault of one of them is told with its line.
abbrev pub AppliesFile : {W X : Type 0} → (W → Option (List ℕ)) → List ℕ → List ℕ → ℕ → List FileUse → List FileUse → List SocketCall → List SocketCall → W → W → Result X Fault → Type 0
AppliesFile contents image name now before after none sockets old new result =
    ReadsThen result ((new ≡ old) × (after ≡ before) × (sockets ≡ none)) (λ file changes. EndsNamed (file_line file) (AppliesOrAsks contents image name now before after none sockets old new file changes) result)

-- ---- items that are removed

-- the change that removes the item of this name, as a table of a file of changes says it
abbrev pub removal : List ℕ → FileChange
removal name = file_change (remove (selector_named name))

-- so many items were removed
abbrev pub dropped_line : ℕ → List ℕ
dropped_line count = codes "dropped " ++ decimal count

-- An image could not be had. On the socket nobody answered, and that is answered, or that there was no memory; or somebody was asked for a file of changes that removes some items.
abbrev pub DropsInstead : {W X : Type 0} → List ℕ → List (List ℕ) → (W → Option (List ℕ)) → List SocketCall → List SocketCall → W → W → Result X Fault → Type 0
DropsInstead name names contents none sockets old new result =
    ((fault : ImageFault) × IsNotThere fault × (result ≡ Err (faults.Image fault)) × IsNobody name none sockets × (new ≡ old))
    ⊎ ((bytes : List ℕ) × (file.read bytes ≡ Some (Ok (map removal names))) × (sockets ≡ none ++ Connected name true ∷ []) × (given : Result (String Global) Fault) × GivesAnswer bytes given × PrintsAnswer (λ text. dropped_line (length names)) given contents old new result)

-- Items were removed one after another, at one moment, or a server was asked for a file of changes that removes them; or there was no memory for their changes, and nothing is done.
abbrev pub Drops : {W X : Type 0} → (W → Option (List ℕ)) → List ℕ → List ℕ → List (List ℕ) → ℕ → List FileUse → List FileUse → List SocketCall → List SocketCall → W → W → Result X Fault → Type 0
Drops contents image name names now before after none sockets old new result =
    ((result ≡ Err memory_fault) × (new ≡ old) × (after ≡ before) × (sockets ≡ none))
    ⊎ (OpensUnasked image name before after none sockets old new result (MakesEach dropped_line contents now old new result (map removal names))
    ⊎ ((bytes : List ℕ) × (file.read bytes ≡ Some (Ok (map removal names))) × AsksServer image name bytes (λ text. dropped_line (length names)) contents before after none sockets old new result))

-- A fault of one of them is told with its line.
abbrev pub Removes : {W X : Type 0} → (W → Option (List ℕ)) → List ℕ → List ℕ → List (List ℕ) → ℕ → List FileUse → List FileUse → List SocketCall → List SocketCall → W → W → Result X Fault → Type 0
Removes contents image name names now before after none sockets old new result = EndsNamed (names_line names) (Drops contents image name names now before after none sockets old new) result
