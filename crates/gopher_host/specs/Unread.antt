-- Why a file of changes gives none.
use Rattle.std.specs.Prelude.{◌≡◌, ◌≢◌, ◌⊎◌, ℕ, List, Some, None, Result, Ok, Err, IsUtf8, string_bytes}
use Rattle.std.specs.declared.io.ErrorKind.{ErrorKind}
use Rattle.std.specs.declared.io.ErrorKind.TheVariants.{OutOfMemory}
use Rattle.change_file.specs.Changes.{read}
use Rattle.change_file.specs.declared.fault.ChangeFileFault.{ChangeFileFault}
use Rattle.change_file.specs.declared.fault.ChangeFileFault.TheVariants.{NotToml, Table, Memory}
use Rattle.change_flaws.specs.Flaws.{SaysFlaw}
use Rattle.gopher_host.specs.declared.fault.Fault.{Fault}
use Rattle.gopher_host.specs.declared.fault.Fault.TheVariants as faults

-- a text gives no changes for this fault
abbrev pub GivesNone : List ℕ → ChangeFileFault → Type 0
GivesNone text NotToml = IsUtf8 text → read text ≡ None
GivesNone text (Table number) = IsUtf8 text × (read text ≡ Some (Err number))
GivesNone text Memory = IsUtf8 text

-- The fault is told, with the line of what is wrong where there is one; or memory lacked for that.
abbrev pub TellsFlaw : List ℕ → ChangeFileFault → Fault → Type 0
TellsFlaw text fault (faults.Flaw told line) = (told ≡ fault) × SaysFlaw text fault (Some (string_bytes line))
TellsFlaw text fault (faults.Changes told) = (told ≡ fault) × SaysFlaw text fault None
TellsFlaw text fault other = ⊥

abbrev pub TellsUnread : List ℕ → ChangeFileFault → Fault → Type 0
TellsUnread text fault refusal = (refusal ≡ faults.Changes Memory) ⊎ TellsFlaw text fault refusal

-- What was read of a file gives no changes, and this tells why.
abbrev pub IsUnsaid : Result (List ℕ) ErrorKind → Fault → Type 0
IsUnsaid (Ok text) refusal = (fault : ChangeFileFault) × GivesNone text fault × TellsUnread text fault refusal
IsUnsaid (Err kind) refusal = (kind ≡ OutOfMemory → refusal ≡ faults.Changes Memory) × (kind ≢ OutOfMemory → refusal ≡ faults.NoChanges)
