-- A folder and all folders below it, read one after another.
use Rattle.std.specs.Prelude.{◌≡◌, ℕ, ◌==◌, false, List, [], ◌∷◌, ◌++◌, drop, length, codes, if◌then◌else◌, Option, Some, None, string_bytes}
use Rattle.folder_import.specs.Folders.{IsImported}
use Rattle.folder_import.specs.LeftOut.{left_out}
use Rattle.folder_import.specs.declared.found.Folder.{Folder}
use Rattle.folder_import.specs.declared.found.Found.{Found}
use Rattle.folder_import.specs.declared.importing.Import.{Import}

-- a folder of the system that was read, and what was found there, or that it could not be read
pub record FolderReading : Type 0 where
  pub path : List ℕ
  pub found : Option (List Found)

abbrev pub reading_of : List ℕ → Option (List Found) → FolderReading
reading_of path found = record { path = path; found = found }

-- the file of the system that a folder of the site is
abbrev pub path_in : List ℕ → List ℕ → Folder → List ℕ
path_in folder top one = folder ++ drop (length top) one.at

-- A folder that could not be read is told, and nothing is found in it.
abbrev pub IsReadOrTold : Folder → Option (List Found) → List Found → Import → Import → Type 0
IsReadOrTold one (Some found) given old new = (given ≡ found) × (new ≡ old)
IsReadOrTold one None given old new = (given ≡ []) × (new.file ≡ old.file) × (string_bytes new.left_out ≡ string_bytes old.left_out ++ left_out one.at (codes "NoFile"))

-- One folder is read and put, and gives those below it.
pub record IsTakenFrom (folder top : List ℕ) (one : Folder) (reading : FolderReading) (old new : Import) (below : List Folder) : Type 0 where
  pub path : reading.path ≡ path_in folder top one
  pub found : List Found
  pub between : Import
  pub told : IsReadOrTold one reading.found found old between
  pub put : IsImported top one found between new below

-- The folders that are left are read, each once in its turn; those below one come behind those that are left.
abbrev pub IsFolderWalked : List ℕ → List ℕ → List Folder → List FolderReading → Import → Import → Type 0
IsFolderWalked folder top [] [] old new = new ≡ old
IsFolderWalked folder top [] (reading ∷ others) old new = ⊥
IsFolderWalked folder top (one ∷ left) [] old new = ⊥
IsFolderWalked folder top (one ∷ left) (reading ∷ others) old new =
    (mid : Import) × (below : List Folder) × IsTakenFrom folder top one reading old mid below × IsFolderWalked folder top (left ++ below) others mid new

-- nothing is put yet
abbrev pub IsEmpty : Import → Type 0
IsEmpty import = (import.file ≡ []) × (string_bytes import.left_out ≡ [])

-- what stands behind the last slash
abbrev pub last_part : List ℕ → List ℕ → List ℕ
last_part last [] = last
last_part last (b ∷ bs) = last_part (if b == 47 then bs else last) bs

-- the title of the menu of all: the last part of its selector, or else `Home`
abbrev pub top_title : List ℕ → List ℕ
top_title top = if length (last_part top top) == 0 then codes "Home" else last_part top top

abbrev pub top_folder : List ℕ → Folder
top_folder top = record { at = top; title = top_title top; is_titled = false }
