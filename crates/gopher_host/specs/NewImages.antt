-- What `format` is asked for, and what it makes.
use Rattle.std.specs.Prelude.{◌≡◌, ◌⊎◌, ◌==◌, ℕ, ◌*◌, [], ◌∷◌, ◌++◌, Option, Result, Ok, Err, OnOk, IfErr, if◌then◌else◌, List}
use Rattle.std.specs.Io.KnownBytes.{Appends}
use Rattle.sector_device.specs.Sizes.{sector_size}
use Rattle.common_types.specs.Names.{stamp_of}
use Rattle.common_types.specs.declared.refused.Refused.{Refused as Refusal}
use Rattle.common_types.specs.declared.refused.Refused.TheVariants.{BadName}
use Rattle.page_store.specs.Formatting.{IsFormatFault}
use Rattle.page_store.specs.Steps.{AllAre}
use Rattle.page_store.specs.declared.fault.KeeperFault.{KeeperFault}
use Rattle.file_device.specs.FileCalls.{FileHistory, file_state}
use Rattle.file_device.specs.FileUses.{FileUse, Opened, NotOpened, Left}
use Rattle.file_device.specs.Opening.{IsOpened, IsUnused}
use Rattle.file_names.specs.NameCalls.{NameCall, Looked}
use Rattle.file_names.specs.declared.names.Look.{Look}
use Rattle.file_names.specs.declared.names.Look.TheVariants as looks
use Rattle.file_device.specs.declared.file_call.FileCall.TheVariants.{Create, Lock, SetLength}
use Rattle.image_commands.specs.Faults.{of_store}
use Rattle.image_commands.specs.Formatted.{names_of, sectors_of, first_site, IsFormatted}
use Rattle.image_commands.specs.Lines.{formatted_line}
use Rattle.image_commands.specs.declared.fault.ImageFault.{ImageFault}
use Rattle.image_commands.specs.declared.fault.ImageFault.TheVariants.{Refused, Memory, NoFile}
use Rattle.image_commands.specs.declared.names.SiteNames.{SiteNames}
use Rattle.command_words.specs.declared.words.NewSite.{NewSite}
use Rattle.gopher_host.specs.Faults.{ended, output_fault}
use Rattle.gopher_host.specs.ImageFiles.{file_crash_states, IsNotThere}
use Rattle.gopher_host.specs.declared.fault.Fault.{Fault}
use Rattle.gopher_host.specs.declared.fault.Fault.TheVariants as faults

-- ---- what is asked for, or the first thing that is wrong with it

-- a name, or why an image can't have it
abbrev pub named : {T : Type 0} → Result T Refusal → Result T ImageFault
named (Ok name) = Ok name
named (Err refused) = Err (Refused refused)

-- the moment of so many seconds
abbrev pub moment_of : ℕ → Result ℕ ImageFault
moment_of seconds = named (stamp_of seconds)

-- a port of 0 is a bad name, and comes before all others
abbrev pub names_for : NewSite → Result SiteNames ImageFault
names_for site = if site.port == 0 then Err (Refused BadName) else named (names_of site.host.now site.admin.now site.title.now)

abbrev pub with_sectors : Result SiteNames ImageFault → Result ℕ KeeperFault → Result (SiteNames × ℕ) ImageFault
with_sectors (Err fault) sectors = Err fault
with_sectors (Ok names) (Err fault) = Err (of_store fault)
with_sectors (Ok names) (Ok sectors) = Ok (names, sectors)

-- the names, and how many sectors so many pages are; the names are examined first
abbrev pub asked_for : NewSite → ℕ → Result (SiteNames × ℕ) ImageFault
asked_for site pages = with_sectors (names_for site) (sectors_of pages)

abbrev pub behind : {A B : Type 0} → Result A ImageFault → Result B ImageFault → Result B ImageFault
behind (Err fault) later = Err fault
behind (Ok _) later = later

-- the moment is examined before all else
abbrev pub asked_at : NewSite → ℕ → ℕ → Result (SiteNames × ℕ) ImageFault
asked_at site pages now = behind (moment_of now) (asked_for site pages)

-- ---- what is made

-- A file of this name was created with as many sectors as the pages have, and let go of behind that. Reads of what was left give the first image of just this site, and so does a crash at any moment from then on. No other file was opened as a device.
pub record IsNewImage (image : List ℕ) (site : NewSite) (pages now : ℕ) (before after : List FileUse) : Type 0 where
  pub names : SiteNames
  pub sectors : ℕ
  pub asked : asked_for site pages ≡ Ok (names, sectors)
  pub created : FileHistory
  pub left : FileHistory
  pub used : after ≡ before ++ Opened created ∷ Left left ∷ []
  pub named : created.path ≡ image
  pub file : IsOpened (SetLength (sector_size * sectors) ∷ Lock ∷ Create ∷ []) created
  pub unused : IsUnused created
  pub formatted : IsFormatted (file_state left).disk.view pages (first_site names site.port now)
  pub sure : AllAre (file_crash_states left) (file_state left).disk.view

-- A file of this name was created with as many sectors as the pages have, and an image could not be made there, for this cause.
pub record IsNotFormatted (image : List ℕ) (pages : ℕ) (before after : List FileUse) (fault : ImageFault) : Type 0 where
  pub sectors : ℕ
  pub fits : sectors_of pages ≡ Ok sectors
  pub created : FileHistory
  pub left : FileHistory
  pub used : after ≡ before ++ Opened created ∷ Left left ∷ []
  pub named : created.path ≡ image
  pub file : IsOpened (SetLength (sector_size * sectors) ∷ Lock ∷ Create ∷ []) created
  pub unused : IsUnused created
  pub cause : KeeperFault
  pub is : fault ≡ of_store cause
  pub caused : IsFormatFault pages (file_state created) (file_state left) cause

-- Why no image was made: what is asked for is wrong, or there is no memory, and no file was asked for; there is no such file, or no memory for it; or the file was had, and an image could not be made there.
abbrev pub IsNoNewImage : {A : Type 0} → Result A ImageFault → List ℕ → ℕ → List FileUse → List FileUse → ImageFault → Type 0
IsNoNewImage asked image pages before after fault =
    (((asked ≡ Err fault) ⊎ (fault ≡ Memory)) × (after ≡ before))
    ⊎ ((IsNotThere fault × (after ≡ before ++ NotOpened image ∷ [])) ⊎ IsNotFormatted image pages before after fault)

-- Why there is no line: an image was made, and standard output took no more; or it was not, for its cause, and nothing is printed.
abbrev pub IsFormatEnd : {W : Type 0} → List ℕ → NewSite → ℕ → ℕ → List FileUse → List FileUse → W → W → Fault → Type 0
IsFormatEnd image site pages now before after old new fault =
    ((fault ≡ output_fault) × IsNewImage image site pages now before after)
    ⊎ ((new ≡ old) × (cause : ImageFault) × (fault ≡ faults.Image cause) × IsNoNewImage (asked_at site pages now) image pages before after cause)

-- Nothing is done where what is asked for is wrong. Else an image was made, and the line of its pages is printed or standard output took no more; or it was not, for its cause, and nothing is printed.
pub record Formats {W X : Type 0} (contents : W → Option (List ℕ)) (image : List ℕ) (site : NewSite) (pages now : ℕ) (before after : List FileUse) (old new : W) (result : Result X Fault) : Type 0 where
  pub asked : (e : ImageFault) → asked_at site pages now ≡ Err e → (result ≡ Err (faults.Image e)) × (new ≡ old) × (after ≡ before)
  pub made : OnOk result (IsNewImage image site pages now before after)
  pub printed : OnOk result (Appends (contents old) (contents new) (ended (formatted_line pages)))
  pub fault : IfErr result (IsFormatEnd image site pages now before after old new)

-- ---- a file that must not be there

-- what is answered where there may be a file of the name
abbrev pub IsTakenFile : Look → Fault → Type 0
IsTakenFile looks.There fault = fault ≡ faults.There
IsTakenFile looks.Missing fault = ⊥
IsTakenFile looks.Unknown fault = fault ≡ faults.Image NoFile

-- The file was looked for, of which `asked` and `told` are what the system was asked about names. Where it may be there that is answered, and nothing else is done. Else an image is made, as `format` does.
abbrev pub Inits : {W X : Type 0} → (W → Option (List ℕ)) → List ℕ → NewSite → ℕ → ℕ → List FileUse → List FileUse → List NameCall → List NameCall → W → W → Result X Fault → Type 0
Inits contents image site pages now before after asked told old new result =
    ((answer : Look) × (fault : Fault) × IsTakenFile answer fault × (result ≡ Err fault) × (told ≡ asked ++ Looked image answer ∷ []) × (after ≡ before) × (new ≡ old))
    ⊎ ((told ≡ asked ++ Looked image looks.Missing ∷ []) × Formats contents image site pages now before after old new result)
