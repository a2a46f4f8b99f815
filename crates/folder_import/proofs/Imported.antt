-- The parts of a folder's import, put together.
use Rattle.std.proofs.Common.{◌≡◌, ◌∙◌, ap, subst, ℕ, List, ◌++◌, Option, string_bytes}
use Rattle.host_types.specs.declared.menu.Entry.{Entry}
use Rattle.folder_import.specs.Folders.{documents, folders, listing, lines_told, titles_of, IsImported, PutsMenu}
use Rattle.folder_import.specs.Menus.{lines_in, map_in, menu_entries, menu_title, titles_in, told_in}
use Rattle.folder_import.specs.Parts.{Titled}
use Rattle.folder_import.specs.declared.found.Folder.{Folder}
use Rattle.folder_import.specs.declared.found.Found.{Found}
use Rattle.folder_import.specs.declared.importing.Import.{Import}

pub imported : (top : List ℕ) (folder : Folder) (found : List Found) (old mid between new : Import) (map : Option (List ℕ)) (titles : List Titled) (listed entries : List Entry) (title : List ℕ) (below : List Folder)
    → map ≡ map_in found → titles ≡ titles_in top folder.at (lines_in map)
    → mid.file ≡ old.file ++ documents titles folder.at found → string_bytes mid.left_out ≡ string_bytes old.left_out ++ lines_told titles folder.at found
    → listed ≡ listing titles folder.at found → below ≡ folders titles folder.at found
    → title ≡ menu_title folder (lines_in map) → entries ≡ menu_entries top folder.at listed map
    → between.file ≡ mid.file → string_bytes between.left_out ≡ string_bytes mid.left_out ++ told_in top folder.at 1 (lines_in map)
    → PutsMenu folder.at title entries between new → IsImported top folder found old new below
imported top folder found old mid between new map titles listed entries title below map_is titles_are files told listed_are below_are title_is entries_are same left put =
    let all = titles_of top folder found in
    let titles' : titles ≡ all = titles_are ∙ ap (λ m. titles_in top folder.at (lines_in m)) map_is in
    let title' = title_is ∙ ap (λ m. menu_title folder (lines_in m)) map_is in
    let listed' = listed_are ∙ ap (λ t. listing t folder.at found) titles' in
    let entries' = entries_are ∙ ap (λ l. menu_entries top folder.at l map) listed' ∙ ap (λ m. menu_entries top folder.at (listing all folder.at found) m) map_is in
    record {
      between = between;
      files = record {
        file = same ∙ files ∙ ap (λ t. old.file ++ documents t folder.at found) titles';
        told = left ∙ ap (λ x. x ++ told_in top folder.at 1 (lines_in map)) (told ∙ ap (λ t. string_bytes old.left_out ++ lines_told t folder.at found) titles') ∙ ap (λ m. (string_bytes old.left_out ++ lines_told all folder.at found) ++ told_in top folder.at 1 (lines_in m)) map_is;
      };
      menu = subst (λ e. PutsMenu folder.at (menu_title folder (lines_in (map_in found))) e between new) entries' (subst (λ t. PutsMenu folder.at t entries between new) title' put);
      given = below_are ∙ ap (λ t. folders t folder.at found) titles';
    }
