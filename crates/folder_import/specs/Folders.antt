-- What a folder becomes: documents, a menu, and folders below it.
use Rattle.std.specs.Prelude.{◌≡◌, ◌⊎◌, ℕ, List, [], ◌++◌, take, map, flat_map, string_bytes}
use Rattle.change_file.specs.declared.fault.FileChange.{FileChange}
use Rattle.change_file.specs.declared.fault.FileChange.TheVariants.{Change as OneChange}
use Rattle.change_writer.specs.Said.{read_back}
use Rattle.host_types.specs.declared.change.Change.{Change}
use Rattle.host_types.specs.declared.menu.Entry.{Entry}
use Rattle.folder_import.specs.LeftOut.{left_out, path_of, why_of, import_why}
use Rattle.folder_import.specs.Menus.{map_in, lines_in, titles_in, told_in, menu_entries, menu_title}
use Rattle.folder_import.specs.Pages.{menu_changes}
use Rattle.folder_import.specs.Parts.{Titled, part_of, changes_of, entries_of, folders_of, reasons_of}
use Rattle.folder_import.specs.declared.fault.ImportFault.{ImportFault}
use Rattle.folder_import.specs.declared.found.Folder.{Folder}
use Rattle.folder_import.specs.declared.found.Found.{Found}
use Rattle.folder_import.specs.declared.found.Part.{Part}
use Rattle.folder_import.specs.declared.importing.Import.{Import}

-- changes as a file of changes has them
abbrev pub in_file : List Change → List FileChange
in_file changes = map (λ change. OneChange (read_back change)) changes

-- ---- of all that is found, in its order

abbrev pub documents : List Titled → List ℕ → List Found → List FileChange
documents titles folder found = flat_map (λ one. in_file (changes_of (part_of titles folder one))) found

abbrev pub listing : List Titled → List ℕ → List Found → List Entry
listing titles folder found = flat_map (λ one. entries_of (part_of titles folder one)) found

abbrev pub folders : List Titled → List ℕ → List Found → List Folder
folders titles folder found = flat_map (λ one. folders_of (part_of titles folder one)) found

-- the lines of what is left out of a part
abbrev pub told_of : List ℕ → List ℕ → Part → List ℕ
told_of folder name part = flat_map (λ reason. left_out (path_of folder name) (why_of reason)) (reasons_of part)

abbrev pub lines_told : List Titled → List ℕ → List Found → List ℕ
lines_told titles folder found = flat_map (λ one. told_of folder one.name (part_of titles folder one)) found

-- ---- the menu

-- the first pages of a menu
abbrev pub front_pages : List ℕ → List ℕ → List Entry → ℕ → List FileChange
front_pages at title entries n = map (λ c. OneChange c) (take n (menu_changes at title entries))

-- Its pages are put; or one of them can't be, which is told, and so many before it are put.
abbrev pub IsMenuPut : List ℕ → List ℕ → List Entry → List FileChange → List ℕ → Type 0
IsMenuPut at title entries changes lines =
    ((changes ≡ map (λ c. OneChange c) (menu_changes at title entries)) × (lines ≡ []))
    ⊎ ((n : ℕ) × (fault : ImportFault) × (changes ≡ front_pages at title entries n) × (lines ≡ left_out at (import_why fault)))

pub record PutsMenu (at title : List ℕ) (entries : List Entry) (old new : Import) : Type 0 where
  pub changes : List FileChange
  pub lines : List ℕ
  pub is : IsMenuPut at title entries changes lines
  pub file : new.file ≡ old.file ++ changes
  pub told : string_bytes new.left_out ≡ string_bytes old.left_out ++ lines

-- ---- all of a folder

-- the titles that its gophermap says
abbrev pub titles_of : List ℕ → Folder → List Found → List Titled
titles_of top folder found = titles_in top folder.at (lines_in (map_in found))

-- the changes of its documents, and the lines of what is left out of them and of its gophermap
pub record PutsDocuments (top : List ℕ) (folder : Folder) (found : List Found) (old new : Import) : Type 0 where
  pub file : new.file ≡ old.file ++ documents (titles_of top folder found) folder.at found
  pub told : string_bytes new.left_out ≡ (string_bytes old.left_out ++ lines_told (titles_of top folder found) folder.at found) ++ told_in top folder.at 1 (lines_in (map_in found))

-- The documents of a folder are put, and then its menu; what is left out is told; and the folders below it are given.
pub record IsImported (top : List ℕ) (folder : Folder) (found : List Found) (old new : Import) (below : List Folder) : Type 0 where
  pub between : Import
  pub files : PutsDocuments top folder found old between
  pub menu : let listed = listing (titles_of top folder found) folder.at found in
      PutsMenu folder.at (menu_title folder (lines_in (map_in found))) (menu_entries top folder.at listed (map_in found)) between new
  pub given : below ≡ folders (titles_of top folder found) folder.at found
