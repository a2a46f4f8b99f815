-- What commands do with the image in a file, and what they print.
use Rattle.std.specs.Prelude.{◌≡◌, ◌⊎◌, ◌++◌, ℕ, Bool, true, false, List, [], ◌∷◌, Option, Result, Err, IfOk, IfErr}
use Rattle.common_types.specs.CrashStates.{CrashStates, AddsNone}
use Rattle.page_store.specs.Sectors.{Image}
use Rattle.page_store.specs.Steps.{crash_states_of}
use Rattle.file_device.specs.FileCalls.{FileHistory, file_state, PossibleSince}
use Rattle.file_device.specs.FileUses.{FileUse, Opened, NotOpened, Left}
use Rattle.file_device.specs.Opening.{IsOpened, IsUnused}
use Rattle.file_device.specs.declared.file_call.FileCall.TheVariants.{Open, Lock}
use Rattle.image_commands.specs.Compacted.{KeepsOneSite, IsWrittenAnew, IsCompactingFault, MayHaveWritten}
use Rattle.image_commands.specs.Faults.{IsReadingFault}
use Rattle.image_commands.specs.Lines.{IsChecked}
use Rattle.image_commands.specs.Listing.{IsListing}
use Rattle.image_commands.specs.declared.listing.ListForm.{ListForm}
use Rattle.image_commands.specs.declared.listing.ListForm.TheVariants.{Short, Long}
use Rattle.image_commands.specs.Upgraded.{IsUpgradedImage, IsUpgradingFault}
use Rattle.image_commands.specs.declared.fault.ImageFault.{ImageFault}
use Rattle.image_commands.specs.declared.fault.ImageFault.TheVariants.{NoFile, Memory}
use Rattle.host_on_disk.specs.Upgrades.{KeepsEither}
use Rattle.image_exports.specs.Exports.{IsExported}
use Rattle.std.specs.Prelude.{length}
use Rattle.gopher_host.specs.Endings.{GivesAs}
use Rattle.gopher_host.specs.Faults.{ended}
use Rattle.gopher_host.specs.declared.fault.Fault.{Fault}
use Rattle.gopher_host.specs.declared.fault.Fault.TheVariants as faults

abbrev pub file_crash_states : FileHistory → CrashStates Image
file_crash_states = crash_states_of (λ (device : FileHistory). length device.calls) (λ device. PossibleSince device.calls)

-- ---- the file that is used, and no other

-- There is no such file that can be had, or no memory for it.
abbrev pub IsNotThere : ImageFault → Type 0
IsNotThere fault = (fault ≡ NoFile) ⊎ (fault ≡ Memory)

-- The file of this name was opened, let go of behind that as `left`, and this holds of what was done in between. No other file was opened as a device.
pub record OnImageFile (image : List ℕ) (before now : List FileUse) (Holds : FileHistory → FileHistory → Type 0) : Type 0 where
  pub opened : FileHistory
  pub left : FileHistory
  pub used : now ≡ before ++ Opened opened ∷ Left left ∷ []
  pub named : opened.path ≡ image
  pub calls : IsOpened (Lock ∷ Open ∷ []) opened
  pub unused : IsUnused opened
  pub holds : Holds opened left

-- The file of this name was asked for and not had: that is answered, and nothing is done. Or it was opened, and this holds.
abbrev pub OpensThen : {X : Type 0} → List ℕ → List FileUse → List FileUse → Result X Fault → Type 0 → (FileHistory → FileHistory → Type 0) → Type 0
OpensThen image before now result Untouched Holds =
    ((fault : ImageFault) × IsNotThere fault × (result ≡ Err (faults.Image fault)) × (now ≡ before ++ NotOpened image ∷ []) × Untouched)
    ⊎ OnImageFile image before now Holds

-- ---- what is printed, and what was done for it

-- A text of which this holds is printed, or standard output took no more; or such a fault is answered, as this one, and nothing is printed.
pub record AnswersAs {W X : Type 0} (as_fault : ImageFault → Fault) (Is : List ℕ → Type 0) (IsCause : ImageFault → Type 0) (contents : W → Option (List ℕ)) (old new : W) (result : Result X Fault) : Type 0 where
  pub given : Result (List ℕ) ImageFault
  pub gives : GivesAs as_fault given contents old new result
  pub is : IfOk given Is
  pub caused : IfErr given IsCause

abbrev pub AnswersWith : {W X : Type 0} → (List ℕ → Type 0) → (ImageFault → Type 0) → (W → Option (List ℕ)) → W → W → Result X Fault → Type 0
AnswersWith Is IsCause contents old new result = AnswersAs (λ fault. faults.Image fault) Is IsCause contents old new result

-- nothing was written
abbrev pub IsUnwritten : FileHistory → FileHistory → Type 0
IsUnwritten opened left = AddsNone (file_crash_states opened) (file_crash_states left)

-- at length or not
abbrev pub form_of : Bool → ListForm
form_of true = Long
form_of false = Short

-- the listing of its site, in a form
abbrev pub ListsImage : {W X : Type 0} → ListForm → (W → Option (List ℕ)) → W → W → Result X Fault → FileHistory → FileHistory → Type 0
ListsImage form contents old new result opened left =
    AnswersWith (λ text. IsListing form (file_state opened).disk.view text) (λ fault. IsReadingFault (file_state opened) (file_state left) fault) contents old new result
    × IsUnwritten opened left

-- the file of changes of its site
abbrev pub Exports : {W X : Type 0} → (W → Option (List ℕ)) → W → W → Result X Fault → FileHistory → FileHistory → Type 0
Exports contents old new result opened left =
    AnswersWith (λ text. IsExported (file_state opened).disk.view text) (λ fault. IsReadingFault (file_state opened) (file_state left) fault) contents old new result
    × IsUnwritten opened left

-- the line of its figures
abbrev pub Checks : {W X : Type 0} → (W → Option (List ℕ)) → W → W → Result X Fault → FileHistory → FileHistory → Type 0
Checks contents old new result opened left =
    AnswersWith (λ text. (line : List ℕ) × (text ≡ ended line) × IsChecked file_state file_crash_states opened line) (λ fault. IsReadingFault (file_state opened) (file_state left) fault) contents old new result
    × IsUnwritten opened left

-- The line of its free pages, once its site is written anew. Where a fault comes nothing was written; or it may have been, and a crash leaves the same site.
abbrev pub Compacts : {W X : Type 0} → (W → Option (List ℕ)) → W → W → Result X Fault → FileHistory → FileHistory → Type 0
Compacts contents old new result opened left =
    AnswersAs (λ fault. faults.Compact fault)
    (λ text. (line : List ℕ) × (text ≡ ended line) × KeepsOneSite file_state file_crash_states opened left × IsWrittenAnew (file_state left).disk.view line)
    (λ fault. IsCompactingFault (file_state opened) (file_state left) fault × (IsUnwritten opened left ⊎ (MayHaveWritten fault × KeepsOneSite file_state file_crash_states opened left)))
    contents old new result

-- The line of how many records an upgrade wrote. A fault as above: the same site, in version 1 or 2.
abbrev pub UpgradesImage : {W X : Type 0} → (W → Option (List ℕ)) → W → W → Result X Fault → FileHistory → FileHistory → Type 0
UpgradesImage contents old new result opened left =
    AnswersWith
    (λ text. (line : List ℕ) × (text ≡ ended line) × IsUpgradedImage file_state file_crash_states opened left line)
    (λ fault. IsUpgradingFault (file_state opened) (file_state left) fault × (IsUnwritten opened left ⊎ (MayHaveWritten fault × KeepsEither file_state file_crash_states opened left)))
    contents old new result
