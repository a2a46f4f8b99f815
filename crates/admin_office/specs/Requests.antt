-- What is done for an administrator's request in a turn of the office.
use Rattle.std.specs.Prelude.{◌≡◌, ◌≢◌, ◌⊎◌, ℕ, ◌+◌, ◌-◌, ◌≤◌, Bool, true, false, not, nat_lt, Option, Some, None, Result, Ok, Err, List, [], ◌∷◌, ◌++◌, IfOk, IsUtf8, drop, length, take}
use Rattle.host_types.specs.declared.site_fault.SiteFault.TheVariants as site
use Rattle.group_world.specs.declared.event.Event.{Event}
use Rattle.group_world.specs.declared.event.Event.TheVariants.{Admin}
use Rattle.group_world.specs.declared.event.Outcome.{Outcome}
use Rattle.group_world.specs.declared.event.Outcome.TheVariants.{Done, Fault}
use Rattle.change_file.specs.Changes.{read}
use Rattle.change_file.specs.Printed.{applied_line, file_line}
use Rattle.change_file.specs.declared.fault.ApplyFault.{ApplyFault}
use Rattle.change_file.specs.declared.fault.ChangeFileFault.{ChangeFileFault}
use Rattle.change_file.specs.declared.fault.ChangeFileFault.TheVariants.{NotToml, Table}
use Rattle.change_file.specs.declared.fault.FileChange.{FileChange}
use Rattle.change_file.specs.declared.fault.FileChange.TheVariants.{Change, Refused}
use Rattle.turns.specs.Turns.{Trace, trace, nothing}
use Rattle.turns.specs.declared.wire.WireFault.{WireFault}
use Rattle.daily_turns.specs.Tries.{write_try}
use Rattle.turns.specs.WireCalls.{WireCall, HasMade, Read, ReadFailed, ReadWaited, Wrote, WriteFailed, WriteWaited, Closed}
use Rattle.admin_lines.specs.Faults.{request_line}
use Rattle.admin_lines.specs.Heads.{head_in}
use Rattle.admin_lines.specs.Holds.{is_hold, held_line, held_text}
use Rattle.admin_lines.specs.Replies.{reply}
use Rattle.admin_lines.specs.declared.fault.RequestFault.{RequestFault}
use Rattle.admin_lines.specs.declared.fault.RequestFault.TheVariants.{Cut, Late}
use Rattle.admin_lines.specs.declared.head.RequestHead.{RequestHead}
use Rattle.admin_office.specs.Lines.{no_memory, not_made, site_fault}
use Rattle.admin_office.specs.Tasks.{Task, Hearing, Holding, Making, Telling, Over}

-- ---- what is told

-- It is to be told why not all was done.
abbrev pub Refuses : List ℕ → Task → Type 0
Refuses text after = (after ≡ Telling (reply false text)) ⊎ (after ≡ Telling no_memory)

-- It is to be told that all was done.
abbrev pub Agrees : List ℕ → Task → Type 0
Agrees text after = (after ≡ Telling (reply true text)) ⊎ (after ≡ Telling no_memory)

-- ---- a request that is heard

-- What is known of a file of changes that was read, as `read_changes` says.
pub record SaysChanges (bytes : List ℕ) (result : Result (List FileChange) ChangeFileFault) : Type 0 where
  pub ok : IfOk result (λ changes. IsUtf8 bytes × (read bytes ≡ Some (Ok changes)))
  pub table : (k : ℕ) → result ≡ Err (Table k) → IsUtf8 bytes × (read bytes ≡ Some (Err k))
  pub toml : result ≡ Err NotToml → IsUtf8 bytes → read bytes ≡ None

-- Its changes are to be made, or it is to be told why there are none. Where there is no memory for the reply that all are made, none is.
abbrev pub IsTaken : Result (List FileChange) ChangeFileFault → Task → Type 0
IsTaken (Ok changes) after = (after ≡ Making changes (length changes)) ⊎ (after ≡ Telling no_memory)
IsTaken (Err fault) after = Refuses (file_line fault) after

-- The file is whole, and was read.
abbrev pub IsRead : List ℕ → Task → Type 0
IsRead bytes after = (result : Result (List FileChange) ChangeFileFault) × SaysChanges bytes result × IsTaken result after

-- by whether there are fewer bytes than the head says
abbrev pub HasHeardFile : Bool → RequestHead → List ℕ → Task → Type 0
HasHeardFile true head heard after = after ≡ Hearing heard
HasHeardFile false head heard after = IsRead (take head.count (drop head.start heard)) after

abbrev pub HasHeardBy : Result (Option RequestHead) RequestFault → List ℕ → Task → Type 0
HasHeardBy (Ok None) heard after = after ≡ Hearing heard
HasHeardBy (Ok (Some head)) heard after = HasHeardFile (nat_lt (length heard) (head.start + head.count)) head heard after
HasHeardBy (Err fault) heard after = Refuses (request_line fault) after

-- by whether it is asked that the office holds still
abbrev pub HasHeardIf : Bool → List ℕ → Task → Type 0
HasHeardIf true heard after = after ≡ Holding
HasHeardIf false heard after = HasHeardBy (head_in heard) heard after

-- What stands once all this was heard, from the start of the connection: by its head, and whether the file behind it is whole. What comes behind the file is not looked at.
abbrev pub IsHeardSoFar : List ℕ → Task → Type 0
IsHeardSoFar heard after = HasHeardIf (is_hold heard) heard after

-- what a read gave: no bytes are the end
abbrev pub TakesPiece : List ℕ → List ℕ → Task → Type 0
TakesPiece heard [] after = Refuses (request_line Cut) after
TakesPiece heard (b ∷ bytes) after = IsHeardSoFar (heard ++ b ∷ bytes) after ⊎ (after ≡ Telling no_memory)

-- One read into room for 4,096 bytes. One that failed ends it. Behind one that would have had to wait it rests.
pub data ReadsOnce (heard : List ℕ) : List WireCall → Task → Bool → Type 0 where
  hears : (piece : List ℕ) (after : Task) → length piece ≤ 2048 → TakesPiece heard piece after → ReadsOnce heard (Read 2048 piece ∷ []) after false
  fails : ReadsOnce heard (ReadFailed 2048 ∷ Closed ∷ []) Over false
  waits : ReadsOnce heard (ReadWaited 2048 ∷ []) (Hearing heard) true

-- ---- an office that holds still

-- One read, for which a second is waited at most. Where it gave something, or the end, the office held still until then; where nothing came it was late.
pub data WaitsOnce : List WireCall → Task → Type 0 where
  came : (piece : List ℕ) (after : Task) → length piece ≤ 2048 → Agrees held_text after → WaitsOnce (Read 2048 piece ∷ []) after
  late : (after : Task) → Refuses (request_line Late) after → WaitsOnce (ReadWaited 2048 ∷ []) after
  lost : WaitsOnce (ReadFailed 2048 ∷ Closed ∷ []) Over

-- One write of it, which was taken whole or not.
abbrev pub TellsHeld : List WireCall → List WireCall → Bool → Type 0
TellsHeld old new true = new ≡ old ++ Wrote held_line (length held_line) ∷ []
TellsHeld old new false = (tried : Result (Option ℕ) WireFault) × (tried ≢ Ok (Some (length held_line))) × (new ≡ old ++ write_try tried held_line ∷ [])

-- It is told so by one write, which has to be taken whole, and then waited for. Nobody else is served meanwhile: no event comes between.
pub data HoldsOnce : List WireCall → Task → Type 0 where
  told : (made : List WireCall) (after : Task) → WaitsOnce made after → HoldsOnce (Wrote held_line (length held_line) ∷ made) after
  untold : (tried : Result (Option ℕ) WireFault) → tried ≢ Ok (Some (length held_line)) → HoldsOnce (write_try tried held_line ∷ Closed ∷ []) Over

-- ---- changes that are made, by the text of one that was not

-- by what the hub answers to the change before those that are left
abbrev pub Goes : (ApplyFault → List ℕ) → Outcome → List FileChange → ℕ → Task → Type 0
Goes text Done left count after = after ≡ Making left count
Goes text (Fault fault) left count after = Refuses (text (not_made (count - length left) (site_fault fault))) after
Goes text outcome left count after = ⊥

-- The next change is one event, at a moment of the clock. Where none is left all were made, and that is to be told. A change with a name that its type refuses is refused here.
abbrev pub MakesNext : (ApplyFault → List ℕ) → List FileChange → ℕ → Trace → Task → Type 0
MakesNext text [] count t after = (t ≡ nothing) × (after ≡ Telling (reply true (applied_line count)))
MakesNext text (Change change ∷ left) count t after = (now : ℕ) × (outcome : Outcome) × (t ≡ trace [] (Admin change now ∷ []) (outcome ∷ [])) × Goes text outcome left count after
MakesNext text (Refused refused ∷ left) count t after = (t ≡ nothing) × Refuses (text (not_made (count - length left) (site.Refused refused))) after

-- ---- a reply that is told

-- One write, which is offered all that is to be told and takes the next of it. One that failed or took nothing ends it. Where all is told the connection is closed.
pub data WritesOnce : List ℕ → List WireCall → Task → Bool → Type 0 where
  closes : WritesOnce [] (Closed ∷ []) Over false
  sends : (unsent piece rest : List ℕ) → piece ≢ [] → unsent ≡ piece ++ rest → WritesOnce unsent (Wrote unsent (length piece) ∷ []) (Telling rest) false
  takes_none : (unsent : List ℕ) → unsent ≢ [] → WritesOnce unsent (Wrote unsent 0 ∷ Closed ∷ []) Over false
  breaks : (unsent : List ℕ) → unsent ≢ [] → WritesOnce unsent (WriteFailed unsent ∷ Closed ∷ []) Over false
  stays : (unsent : List ℕ) → unsent ≢ [] → WritesOnce unsent (WriteWaited unsent ∷ []) (Telling unsent) true

-- ---- turns

-- What is done by calls of the wire alone.
abbrev pub ByWire : (List WireCall → Task → Bool → Type 0) → Trace → Task → Bool → Type 0
ByWire Does t after rests = (made : List WireCall) × (t ≡ trace made [] []) × Does made after rests

-- One turn of a request that doesn't rest: how far it is afterwards, and whether it rests.
abbrev pub TakesStep : (ApplyFault → List ℕ) → Task → Trace → Task → Bool → Type 0
TakesStep text (Hearing heard) t after rests = ByWire (ReadsOnce heard) t after rests
TakesStep text Holding t after rests = ByWire (λ made task rested. HoldsOnce made task × (rested ≡ false)) t after rests
TakesStep text (Making left count) t after rests = MakesNext text left count t after × (rests ≡ false)
TakesStep text (Telling unsent) t after rests = ByWire (WritesOnce unsent) t after rests
TakesStep text Over t after rests = (t ≡ nothing) × (after ≡ Over) × (rests ≡ false)

-- So it was with these calls of a wire, by these events.
abbrev pub StepsBy : (ApplyFault → List ℕ) → List WireCall → List WireCall → Task → List Event → List Outcome → Task → Bool → Type 0
StepsBy text before now task es os after rests = HasMade before now (λ made. TakesStep text task (trace made es os) after rests)

-- half a minute
abbrev pub longest_silence : ℕ
longest_silence = 30

abbrev pub is_late : ℕ → ℕ → Bool
is_late moved now = not (nat_lt (now - moved) longest_silence)
