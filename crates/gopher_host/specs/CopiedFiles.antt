-- What `copy` did with files, and what it printed.
use Rattle.std.specs.Prelude.{◌≡◌, ◌⊎◌, ℕ, List, [], ◌∷◌, ◌++◌, Option, Result, Ok, Err}
use Rattle.std.specs.Io.KnownBytes.{Appends}
use Rattle.file_device.specs.FileCalls.{FileHistory}
use Rattle.file_device.specs.FileUses.{FileUse}
use Rattle.file_names.specs.NameCalls.{NameCall, Looked}
use Rattle.file_names.specs.declared.names.Look.{Look}
use Rattle.file_names.specs.declared.names.Look.TheVariants.{Missing}
use Rattle.file_copies.specs.FileCopies.{ComesOfOld, IsRefused}
use Rattle.image_copies.specs.declared.fault.CopyFault.{CopyFault}
use Rattle.admin_socket.specs.SocketCalls.{SocketCall}
use Rattle.gopher_host.specs.Faults.{ended, memory_fault, output_fault}
use Rattle.gopher_host.specs.Held.{HasImage}
use Rattle.gopher_host.specs.declared.fault.Fault.{Fault}
use Rattle.gopher_host.specs.declared.fault.Fault.TheVariants as faults

-- The line that was given is printed and nothing else, or standard output took no more; or its fault is answered, and nothing is printed.
abbrev pub GivesLine : {W X : Type 0} → Result (List ℕ) Fault → (W → Option (List ℕ)) → W → W → Result X Fault → Type 0
GivesLine (Ok line) contents old new (Ok _) = Appends (contents old) (contents new) (ended line)
GivesLine (Ok line) contents old new (Err fault) = fault ≡ output_fault
GivesLine (Err refused) contents old new (Ok _) = ⊥
GivesLine (Err refused) contents old new (Err fault) = (fault ≡ refused) × (new ≡ old)

-- what copying answered, as an answer of the program
abbrev pub of_copy : {A : Type 0} → Result A CopyFault → Result A Fault
of_copy (Ok given) = Ok given
of_copy (Err fault) = Err (faults.Copy fault)

-- The image was had, and this is what came of it.
pub record CopiesHad (image name : List ℕ) (pages : Option ℕ) (before after : List FileUse) (none sockets : List SocketCall) (asked now : List NameCall) (given : Result (List ℕ) Fault) : Type 0 where
  pub opened : FileHistory
  pub between : List FileUse
  pub had : HasImage image before between none sockets (Ok opened)
  pub copied : Result (List ℕ) CopyFault
  pub came : ComesOfOld name pages between after asked now copied opened
  pub given_is : given ≡ of_copy copied

-- What came of the image once nothing had the new name: there was no memory for the name of its part; the image was not had; or it was.
abbrev pub CopiesOrNot : List ℕ → List ℕ → Option ℕ → List FileUse → List FileUse → List SocketCall → List SocketCall → List NameCall → List NameCall → Result (List ℕ) Fault → Type 0
CopiesOrNot image name pages before after none sockets asked now given =
    ((given ≡ Err memory_fault) × (after ≡ before) × (sockets ≡ none) × (now ≡ asked))
    ⊎ (((fault : Fault) × HasImage image before after none sockets (Err fault) × (given ≡ Err fault) × (now ≡ asked))
    ⊎ CopiesHad image name pages before after none sockets asked now given)

-- The new name was looked for. Where something may have it, nothing else is asked of the system.
abbrev pub CopiesImage : List ℕ → List ℕ → Option ℕ → List FileUse → List FileUse → List SocketCall → List SocketCall → List NameCall → List NameCall → Result (List ℕ) Fault → Type 0
CopiesImage image name pages before after none sockets asked now given =
    ((answer : Look) × (fault : CopyFault) × IsRefused answer fault × (given ≡ Err (faults.Copy fault)) × (after ≡ before) × (sockets ≡ none) × (now ≡ asked ++ Looked name answer ∷ []))
    ⊎ CopiesOrNot image name pages before after none sockets (asked ++ Looked name Missing ∷ []) now given

-- The image in one file was copied to another one or it was not, and that is printed or answered. `asked` and `now` are what was asked of the system about names.
pub record CopiesTo {W X : Type 0} (contents : W → Option (List ℕ)) (image name : List ℕ) (pages : Option ℕ) (before after : List FileUse) (none sockets : List SocketCall) (asked now : List NameCall) (old new : W) (result : Result X Fault) : Type 0 where
  pub given : Result (List ℕ) Fault
  pub printed : GivesLine given contents old new result
  pub did : CopiesImage image name pages before after none sockets asked now given
