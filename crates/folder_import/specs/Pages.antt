-- A menu of any length, as pages that a site takes.
use Rattle.std.specs.Prelude.{ℕ, ◌+◌, ◌*◌, ◌/◌, List, [], ◌∷◌, ◌++◌, take, drop, length, map, codes, decimal, nat_le, nat_lt, None, if◌then◌else◌}
use Rattle.std.specs.List.{range_with_len}
use Rattle.host_types.specs.declared.item.Item.{Item}
use Rattle.host_types.specs.declared.item.Body.TheVariants.{Menu}
use Rattle.host_types.specs.declared.menu.Entry.{Entry}
use Rattle.host_types.specs.declared.menu.Entry.TheVariants.{Local}
use Rattle.host_types.specs.declared.change.Change.{Change}
use Rattle.host_types.specs.declared.change.Change.TheVariants.{Put}
use Rattle.change_writer.specs.declared.fault.WriteFault.{WriteFault}
use Rattle.change_writer.specs.declared.fault.WriteFault.TheVariants as written
use Rattle.folder_import.specs.declared.fault.ImportFault.{ImportFault}
use Rattle.folder_import.specs.declared.fault.ImportFault.TheVariants as faults

-- so many entries a page has, where there is a page behind it
abbrev pub a_page : ℕ
a_page = 99

-- a menu of at most 100 entries is one page
abbrev pub page_count : ℕ → ℕ
page_count n = if nat_le n 100 then 1 else (n + 98) / a_page

-- the entries of the page of this place, from 0
abbrev pub page : List Entry → ℕ → List Entry
page entries k = if nat_le (length entries) 100 then entries else take a_page (drop (a_page * k) entries)

-- the first page stands where the menu does, and the others below it, the second by the name `page-2`
abbrev pub page_name : List ℕ → ℕ → List ℕ
page_name at k = if nat_lt 0 k then at ++ codes "/page-" ++ decimal (k + 1) else at

-- with a link to the next page, where there is one
abbrev pub linked : List ℕ → List Entry → ℕ → List Entry
linked at entries k = page entries k ++ (if nat_lt (k + 1) (page_count (length entries)) then Local (page_name at (k + 1)) ∷ [] else [])

abbrev pub menu_item : List ℕ → List Entry → Item
menu_item title entries = record { title = title; stamp = 0; until = None; summary = []; body = Menu entries }

abbrev pub page_change : List ℕ → List ℕ → List Entry → ℕ → Change
page_change at title entries k = Put (page_name at k) (menu_item title (linked at entries k))

-- the changes that put a menu
abbrev pub menu_changes : List ℕ → List ℕ → List Entry → List Change
menu_changes at title entries = map (page_change at title entries) (range_with_len 0 (page_count (length entries)))

-- what a writer's fault is called here
abbrev pub of_writer : WriteFault → ImportFault
of_writer written.Unsaid = faults.Unsaid
of_writer written.Memory = faults.Memory
