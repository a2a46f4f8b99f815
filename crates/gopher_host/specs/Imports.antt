-- What is printed of a folder that is imported.
use Rattle.std.specs.Prelude.{◌≡◌, ◌⊎◌, ◌++◌, ◌∷◌, [], ℕ, List, Option, Some, None, Result, Ok, Err, encode_utf8, string_bytes}
use Rattle.std.specs.Io.KnownBytes.{Appends}
use Rattle.common_types.specs.Names.{name_of, is_field}
use Rattle.common_types.specs.declared.refused.Refused.{Refused as Refusal}
use Rattle.change_file.specs.Changes as file
use Rattle.folder_import.specs.Selectors.{resolved}
use Rattle.folder_import.specs.declared.importing.Import.{Import}
use Rattle.folder_reader.specs.Walked.{IsEmpty, IsFolderWalked, FolderReading, top_folder, top_title}
use Rattle.image_items.specs.declared.fault.ItemFault.TheVariants.{Refused}
use Rattle.gopher_host.specs.Faults.{memory_fault, output_fault}
use Rattle.gopher_host.specs.declared.fault.Fault.{Fault}
use Rattle.gopher_host.specs.declared.fault.Fault.TheVariants as faults

-- the selector below which a folder is put
abbrev pub top_named : Option (List ℕ) → Result (List ℕ) Refusal
top_named None = Ok []
top_named (Some under) = resolved [] [] under

-- It ends well where nothing is left out, and else with the lines of what is, but for their last character: the fault's own line ends with an LF.
abbrev pub TellsLeftOut : {X : Type 0} → List ℕ → Result X Fault → Type 0
TellsLeftOut lines (Ok _) = lines ≡ []
TellsLeftOut lines (Err fault) = (text : _) × (last : ℕ) × (fault ≡ faults.LeftOut text) × (lines ≡ string_bytes text ++ encode_utf8 last)

-- all folders are read and put
abbrev pub IsFolderRead : List ℕ → List ℕ → Import → Type 0
IsFolderRead folder top import = (start : Import) × (readings : List FolderReading) × IsEmpty start × IsFolderWalked folder top (top_folder top ∷ []) readings start import

-- Its file of changes is printed and nothing else, and what is left out is answered.
pub record PrintsAll {W X : Type 0} (import : Import) (contents : W → Option (List ℕ)) (old new : W) (result : Result X Fault) : Type 0 where
  pub text : List ℕ
  pub reads : file.read text ≡ Some (Ok import.file)
  pub printed : Appends (contents old) (contents new) text
  pub left : TellsLeftOut (string_bytes import.left_out) result

-- It is printed, or standard output took no more, or there is no memory for it, and nothing is printed.
abbrev pub PrintsChanges : {W X : Type 0} → Import → (W → Option (List ℕ)) → W → W → Result X Fault → Type 0
PrintsChanges import contents old new result =
    PrintsAll import contents old new result ⊎ ((result ≡ Err output_fault) ⊎ ((result ≡ Err memory_fault) × (new ≡ old)))

-- a name that is no selector, or whose last part is no title
abbrev pub IsBadTop : Option (List ℕ) → Refusal → Type 0
IsBadTop under refused = (top_named under ≡ Err refused) ⊎ ((top : List ℕ) × (top_named under ≡ Ok top) × (name_of is_field 69 (top_title top) ≡ Err refused))

-- why nothing is printed
abbrev pub IsNoImport : Option (List ℕ) → Fault → Type 0
IsNoImport under fault = (fault ≡ memory_fault) ⊎ ((fault ≡ faults.NoFolder) ⊎ ((refused : Refusal) × (fault ≡ faults.Item (Refused refused)) × IsBadTop under refused))

-- The folder is put and printed, or standard output took no more; or there is a cause, and nothing is printed.
abbrev pub Imports : {W X : Type 0} → List ℕ → Option (List ℕ) → (W → Option (List ℕ)) → W → W → Result X Fault → Type 0
Imports folder under contents old new result =
    ((top : List ℕ) × (import : Import) × (top_named under ≡ Ok top) × IsFolderRead folder top import × PrintsAll import contents old new result)
    ⊎ ((result ≡ Err output_fault) ⊎ ((fault : Fault) × (result ≡ Err fault) × IsNoImport under fault × (new ≡ old)))
