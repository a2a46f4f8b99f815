-- What comes of each file and folder that is found in a folder.
use Rattle.std.specs.Prelude.{ℕ, Bool, true, false, List, [], ◌∷◌, bytes_eq, if◌then◌else◌, Result, Ok, Err}
use Rattle.std.specs.Str.{is_utf8}
use Rattle.common_types.specs.Names.{name_of, is_field, is_reserved}
use Rattle.common_types.specs.declared.refused.Refused.{Refused}
use Rattle.common_types.specs.declared.refused.Refused.TheVariants.{Reserved, TooLong}
use Rattle.host_types.specs.Items.{is_long_item}
use Rattle.host_types.specs.declared.change.Change.{Change}
use Rattle.host_types.specs.declared.change.Change.TheVariants.{Put}
use Rattle.host_types.specs.declared.item.Item.{Item}
use Rattle.host_types.specs.declared.menu.Entry.{Entry}
use Rattle.host_types.specs.declared.menu.Entry.TheVariants.{Local}
use Rattle.folder_import.specs.Formats.{document}
use Rattle.folder_import.specs.Found.{is_hidden, is_map, is_page_name}
use Rattle.folder_import.specs.Selectors.{child}
use Rattle.folder_import.specs.declared.found.Content.{Content}
use Rattle.folder_import.specs.declared.found.Content.TheVariants as contents
use Rattle.folder_import.specs.declared.found.Folder.{Folder}
use Rattle.folder_import.specs.declared.found.Found.{Found}
use Rattle.folder_import.specs.declared.found.Part.{Part}
use Rattle.folder_import.specs.declared.found.Part.TheVariants as parts
use Rattle.folder_import.specs.declared.found.Reason.{Reason}
use Rattle.folder_import.specs.declared.found.Reason.TheVariants as reasons

-- ---- titles

-- a title that a line says of what stands at a selector
abbrev pub Titled : Type 0
Titled = List ℕ × List ℕ

-- the first title that is said of a selector, or else the name; and whether one is said
abbrev pub title_in : List Titled → List ℕ → List ℕ → List ℕ × Bool
title_in [] selector name = (name, false)
title_in (one ∷ others) selector name = if bytes_eq one.0 selector then (one.1, true) else title_in others selector name

-- ---- what comes of what is found

abbrev pub left_out : Refused → Part
left_out refused = parts.LeftOut (reasons.Refused refused)

-- a document that a site takes
abbrev pub sized : List ℕ → Item → Part
sized selector item = if is_long_item selector item then left_out TooLong else parts.Document selector item

abbrev pub with_content : List ℕ → List ℕ → Bool → Content → Part
with_content selector title said contents.Folder = parts.Below (record { at = selector; title = title; is_titled = said })
with_content selector title said (contents.File sort bytes) = sized selector (document title sort bytes)
with_content selector title said contents.Other = parts.LeftOut reasons.Kind
with_content selector title said contents.Unread = parts.LeftOut reasons.Unread

abbrev pub titled : List ℕ → Bool → Content → Result (List ℕ) Refused → Part
titled selector said content (Err refused) = left_out refused
titled selector said content (Ok title) = with_content selector title said content

abbrev pub placed : List Titled → Found → Result (List ℕ) Refused → Part
placed titles found (Err refused) = left_out refused
placed titles found (Ok selector) =
    if is_reserved selector then left_out Reserved else titled selector (title_in titles selector found.name).1 found.content (name_of is_field 69 (title_in titles selector found.name).0)

-- a file `gophermap` is no document, and nothing else may have its name
abbrev pub map_part : Content → Part
map_part (contents.File sort bytes) = parts.Passed
map_part contents.Unread = parts.LeftOut reasons.Unread
map_part contents.Folder = parts.LeftOut reasons.Kind
map_part contents.Other = parts.LeftOut reasons.Kind

abbrev pub part_of : List Titled → List ℕ → Found → Part
part_of titles folder found =
    if is_hidden found.name then parts.Passed
    else if is_map found.name then map_part found.content
    else if is_page_name found.name then left_out Reserved
    else if is_utf8 found.name then placed titles found (child folder found.name)
    else parts.LeftOut reasons.Unsaid

-- ---- what a part gives

abbrev pub changes_of : Part → List Change
changes_of parts.Passed = []
changes_of (parts.Document selector item) = Put selector item ∷ []
changes_of (parts.Below folder) = []
changes_of (parts.LeftOut reason) = []

-- the entry by which a menu lists it
abbrev pub entries_of : Part → List Entry
entries_of parts.Passed = []
entries_of (parts.Document selector item) = Local selector ∷ []
entries_of (parts.Below folder) = Local folder.at ∷ []
entries_of (parts.LeftOut reason) = []

abbrev pub folders_of : Part → List Folder
folders_of parts.Passed = []
folders_of (parts.Document selector item) = []
folders_of (parts.Below folder) = folder ∷ []
folders_of (parts.LeftOut reason) = []

abbrev pub reasons_of : Part → List Reason
reasons_of parts.Passed = []
reasons_of (parts.Document selector item) = []
reasons_of (parts.Below folder) = []
reasons_of (parts.LeftOut reason) = reason ∷ []
