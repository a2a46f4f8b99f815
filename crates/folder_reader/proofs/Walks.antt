-- A walk that is not at its end.
use Rattle.std.proofs.Common.{◌≡◌, ◌∙◌, refl, sym, ap, subst, List, [], ◌∷◌, ◌++◌, ℕ, length, false, append_assoc, append-nil, Ok, arith}
use Rattle.common_types.specs.Names.{name_of, is_field}
use Rattle.gophermap.proofs.NameBytes.{name_is}
use Rattle.folder_import.specs.declared.found.Folder.{Folder}
use Rattle.folder_import.specs.declared.importing.Import.{Import}
use Rattle.folder_reader.specs.Walked.{IsTakenFrom, IsFolderWalked, FolderReading, top_folder, top_title}

-- whatever ends the walk of the folders that are left, with what was read so far it is one of all
abbrev pub IsOnTheWay : List ℕ → List ℕ → Import → List FolderReading → List Folder → Import → Type 0
IsOnTheWay folder top start so_far left now = (rest : List FolderReading) (new : Import) → IsFolderWalked folder top left rest now new → IsFolderWalked folder top (top_folder top ∷ []) (so_far ++ rest) start new

pub at_first : (folder top : List ℕ) (start : Import) → IsOnTheWay folder top start [] (top_folder top ∷ []) start
at_first folder top start = λ rest new walked. walked

-- one folder on
pub further : (folder top : List ℕ) (start now next : Import) (so_far : List FolderReading) (one : Folder) (left below behind : List Folder) (reading : FolderReading) → behind ≡ left ++ below → IsTakenFrom folder top one reading now next below → IsOnTheWay folder top start so_far (one ∷ left) now → IsOnTheWay folder top start (so_far ++ reading ∷ []) behind next
further folder top start now next so_far one left below behind reading is taken on = λ rest new walked.
    subst (λ (l : List FolderReading). IsFolderWalked folder top (top_folder top ∷ []) l start new) (sym (append_assoc so_far (reading ∷ []) rest))
    (on (reading ∷ rest) new (next, below, taken, subst (λ (l : List Folder). IsFolderWalked folder top l rest next new) is walked))

-- at the end nothing is left
pub ends : (folder top : List ℕ) (start now : Import) (so_far : List FolderReading) → IsOnTheWay folder top start so_far [] now → IsFolderWalked folder top (top_folder top ∷ []) so_far start now
ends folder top start now so_far on =
    subst (λ (l : List FolderReading). IsFolderWalked folder top (top_folder top ∷ []) l start now) (append-nil so_far) (on [] now refl)

-- the first folder is that of the top
pub first_left : (top at title : List ℕ) (items : List Folder) → at ≡ top → Ok title ≡ name_of is_field 69 (top_title top) → items ≡ record { at = at; title = title; is_titled = false } ∷ [] → items ≡ top_folder top ∷ []
first_left top at title items same named are =
    are ∙ ap (λ (x : List ℕ). record { at = x; title = title; is_titled = false } ∷ []) same ∙ ap (λ (x : List ℕ). record { at = top; title = x; is_titled = false } ∷ []) (sym (name_is is_field 69 (top_title top) title (sym named)))

pub none_left : (xs : List Folder) → length xs ≡ 0 → xs ≡ []
none_left [] none = refl
none_left (x ∷ xs) none = absurd (omega (arith, none))
