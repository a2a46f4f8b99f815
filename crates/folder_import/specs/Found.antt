-- What is found in a folder, by its name and when it was changed.
use Rattle.std.specs.Prelude.{◌<◌, ◌≤◌, ℕ, ◌&&◌, Bool, List, length, drop, codes, nat_eq, bytes_eq, get_or}
use Rattle.std.specs.List.{starts_with}
use Rattle.common_types.specs.Digits.{is_number}
use Rattle.folder_import.specs.declared.found.Found.{Found}

-- a name that begins with a period, as the system hides it
abbrev pub is_hidden : List ℕ → Bool
is_hidden name = starts_with nat_eq name (codes ".")

-- the file that says what the menu of its folder is
abbrev pub is_map : List ℕ → Bool
is_map name = bytes_eq name (codes "gophermap")

-- the further pages of a long menu stand below it under such names
abbrev pub is_page_name : List ℕ → Bool
is_page_name name = starts_with nat_eq name (codes "page-") && is_number 20 (drop 5 name)

-- nothing is newer than what stands before it
abbrev pub IsNewestFirst : List Found → Type 0
IsNewestFirst found = (i j : ℕ) (one : Found) → i ≤ j → j < length found → (get_or found j one).time ≤ (get_or found i one).time
