-- The site of the image in a file, written as a new image in another file.
use Rattle.std.specs.Prelude.{◌≡◌, ◌⊎◌, ℕ, ◌*◌, true, false, List, [], ◌∷◌, ◌++◌, length, Option, Result, Ok, Err, codes}
use Rattle.sector_device.specs.Sizes.{sector_size}
use Rattle.host_types.specs.Site.{Site}
use Rattle.common_types.specs.CrashStates.{CrashStates, AddsNone}
use Rattle.sector_device.specs.declared.device.DeviceFault.{DeviceFault}
use Rattle.sector_device.specs.declared.device.DeviceFault.TheVariants as devices
use Rattle.page_store.specs.Sectors.{Image}
use Rattle.page_store.specs.Steps.{AllAre, crash_states_of}
use Rattle.file_device.specs.FileCalls.{FileHistory, file_state, PossibleSince}
use Rattle.file_device.specs.FileUses.{FileUse, Opened, NotOpened, Left}
use Rattle.file_device.specs.Opening.{IsOpened, IsUnused}
use Rattle.file_device.specs.declared.file_call.FileCall.TheVariants.{Create, Lock, SetLength}
use Rattle.file_names.specs.NameCalls.{NameCall, Renamed, Synced}
use Rattle.file_names.specs.declared.names.Look.{Look}
use Rattle.file_names.specs.declared.names.Look.TheVariants as looks
use Rattle.host_on_disk.specs.ImageSites.{ImageRepresents}
use Rattle.image_commands.specs.Faults.{of_device}
use Rattle.image_commands.specs.declared.fault.ImageFault.{ImageFault}
use Rattle.image_commands.specs.declared.fault.ImageFault.TheVariants as images
use Rattle.image_copies.specs.Copies.{HasCount, IsCopied}
use Rattle.image_copies.specs.CopyFaults.{IsNotPlanned, IsNotCopiedWhole}
use Rattle.image_copies.specs.declared.fault.CopyFault.{CopyFault}
use Rattle.image_copies.specs.declared.fault.CopyFault.TheVariants as copies

-- the name under which a new image is written
abbrev pub part_of : List ℕ → List ℕ
part_of new = new ++ codes ".part"

-- the text of what was given
abbrev pub text_of : {A E : Type 0} → (A → List ℕ) → Result A E → Result (List ℕ) E
text_of text (Ok given) = Ok (text given)
text_of text (Err refused) = Err refused

abbrev pub file_crash_states : FileHistory → CrashStates Image
file_crash_states = crash_states_of (λ (device : FileHistory). length device.calls) (λ device. PossibleSince device.calls)

-- a fault of having the new file
abbrev pub of_new_file : DeviceFault → CopyFault
of_new_file devices.NoFile = copies.NoFile
of_new_file devices.Device = copies.Image (of_device devices.Device)
of_new_file devices.Memory = copies.Image (of_device devices.Memory)

-- ---- the new file

-- The new image was written, got its name, and that was made sure of.
pub record IsNamedNew (s : Site) (count : ℕ) (new : List ℕ) (written : FileHistory) (asked now : List NameCall) (line : List ℕ) : Type 0 where
  pub copied : IsCopied s count line (file_state written).disk.view
  pub sure : AllAre (file_crash_states written) (file_state written).disk.view
  pub names : now ≡ asked ++ Renamed (part_of new) new true ∷ Synced new true ∷ []

-- It was not written, and no name was changed. Or it was, and could not be given its name, or not be made sure to have it.
abbrev pub IsNotNamed : Site → ℕ → List ℕ → FileHistory → FileHistory → List NameCall → List NameCall → CopyFault → Type 0
IsNotNamed s count new created written asked now fault =
    (IsNotCopiedWhole count (file_state created) (file_state written) fault × (now ≡ asked))
    ⊎ ((fault ≡ copies.Failed) × ((line : List ℕ) × IsCopied s count line (file_state written).disk.view)
    × ((now ≡ asked ++ Renamed (part_of new) new false ∷ []) ⊎ (now ≡ asked ++ Renamed (part_of new) new true ∷ Synced new false ∷ [])))

-- what came of the new image
abbrev pub NamesOf : Site → ℕ → List ℕ → FileHistory → FileHistory → List NameCall → List NameCall → Result (List ℕ) CopyFault → Type 0
NamesOf s count new created written asked now (Ok line) = IsNamedNew s count new written asked now line
NamesOf s count new created written asked now (Err fault) = IsNotNamed s count new created written asked now fault

-- A file was made beside the new one's name, with as many sectors as the pages have, let go of behind that as `written`, and this is what came of it. No other file was opened as a device.
pub record OnNewFile (s : Site) (count : ℕ) (new : List ℕ) (before after : List FileUse) (asked now : List NameCall) (given : Result (List ℕ) CopyFault) : Type 0 where
  pub created : FileHistory
  pub written : FileHistory
  pub used : after ≡ before ++ Opened created ∷ Left written ∷ []
  pub part : created.path ≡ part_of new
  pub calls : IsOpened (SetLength (sector_size * (8 * count)) ∷ Lock ∷ Create ∷ []) created
  pub unused : IsUnused created
  pub names : NamesOf s count new created written asked now given

-- No such file was had, and no name was changed.
pub record NotOnNewFile (new : List ℕ) (before after : List FileUse) (asked now : List NameCall) (given : Result (List ℕ) CopyFault) : Type 0 where
  pub fault : CopyFault
  pub cause : (fault ≡ copies.NoFile) ⊎ (fault ≡ copies.Image images.Memory)
  pub given_is : given ≡ Err fault
  pub used : after ≡ before ++ NotOpened (part_of new) ∷ []
  pub names : now ≡ asked

abbrev pub MakesNew : Site → ℕ → List ℕ → List FileUse → List FileUse → List NameCall → List NameCall → Result (List ℕ) CopyFault → Type 0
MakesNew s count new before after asked now given = OnNewFile s count new before after asked now given ⊎ NotOnNewFile new before after asked now given

-- ---- the old file

-- The old image is not ready to be written, and no other file was asked for.
pub record IsNotReady (pages : Option ℕ) (between after : List FileUse) (asked now : List NameCall) (given : Result (List ℕ) CopyFault) (opened left : FileHistory) : Type 0 where
  pub fault : CopyFault
  pub given_is : given ≡ Err fault
  pub cause : IsNotPlanned pages (file_state opened) (file_state left) fault
  pub used : after ≡ between
  pub names : now ≡ asked

-- Its one site is ready to be written in so many pages, and this is what came of the new file.
pub record IsReadyToCopy (pages : Option ℕ) (new : List ℕ) (between after : List FileUse) (asked now : List NameCall) (given : Result (List ℕ) CopyFault) (opened left : FileHistory) : Type 0 where
  pub site : Site
  pub stands : ImageRepresents (file_state opened).disk.view site
  pub alone : (s : Site) → ImageRepresents (file_state opened).disk.view s → s ≡ site
  pub count : ℕ
  pub counted : HasCount pages (file_state left).disk.view count
  pub makes : MakesNew site count new between after asked now given

-- What came of an old image that was opened: nothing was written to it, and it was let go of behind all else.
pub record ComesOfOld (new : List ℕ) (pages : Option ℕ) (before after : List FileUse) (asked now : List NameCall) (given : Result (List ℕ) CopyFault) (opened : FileHistory) : Type 0 where
  pub left : FileHistory
  pub between : List FileUse
  pub used : after ≡ between ++ Left left ∷ []
  pub unwritten : AddsNone (file_crash_states opened) (file_crash_states left)
  pub came : IsNotReady pages before between asked now given opened left ⊎ IsReadyToCopy pages new before between asked now given opened left

-- ---- the new name

-- what is said where there may be a file of the new name
abbrev pub IsRefused : Look → CopyFault → Type 0
IsRefused looks.There fault = fault ≡ copies.There
IsRefused looks.Missing fault = ⊥
IsRefused looks.Unknown fault = fault ≡ copies.NoFile
