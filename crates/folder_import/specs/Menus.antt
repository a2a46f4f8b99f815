-- The menu of a folder: by its gophermap where it has one, and else of what is found, in its order.
use Rattle.std.specs.Prelude.{ℕ, ◌+◌, ◌&&◌, Bool, true, List, [], ◌∷◌, ◌++◌, codes, flat_map, if◌then◌else◌, Option, Some, None, Result, Ok, Err}
use Rattle.std.specs.Str.{is_utf8}
use Rattle.common_types.specs.Names.{name_of, is_field}
use Rattle.common_types.specs.declared.refused.Refused.{Refused}
use Rattle.host_types.specs.declared.menu.Entry.{Entry}
use Rattle.gophermap.specs.Line.{Line, ReadLine, Info, Title, Link, Entry as Item, Comment, Listing, End, lines_of}
use Rattle.folder_import.specs.Entries.{entry_of}
use Rattle.folder_import.specs.Found.{is_map}
use Rattle.folder_import.specs.LeftOut.{left_out, path_of, at_line, import_why, line_field, line_name}
use Rattle.folder_import.specs.Parts.{Titled}
use Rattle.folder_import.specs.Selectors.{resolved}
use Rattle.folder_import.specs.declared.fault.ImportFault.{ImportFault}
use Rattle.folder_import.specs.declared.found.Content.{Content}
use Rattle.folder_import.specs.declared.found.Content.TheVariants as contents
use Rattle.folder_import.specs.declared.found.Folder.{Folder}
use Rattle.folder_import.specs.declared.found.Found.{Found}

-- ---- which gophermap

abbrev pub bytes_in : Content → Option (List ℕ)
bytes_in (contents.File sort bytes) = Some bytes
bytes_in contents.Folder = None
bytes_in contents.Other = None
bytes_in contents.Unread = None

abbrev pub or_else : Option (List ℕ) → Option (List ℕ) → Option (List ℕ)
or_else None other = other
or_else (Some bytes) other = Some bytes

-- the bytes of the first file of that name
abbrev pub map_in : List Found → Option (List ℕ)
map_in [] = None
map_in (found ∷ others) = or_else (if is_map found.name then bytes_in found.content else None) (map_in others)

abbrev pub lines_in : Option (List ℕ) → List ReadLine
lines_in None = []
lines_in (Some bytes) = lines_of bytes

-- ---- what its lines say

-- a line whose texts a file of changes can say
abbrev pub is_said : Line → Bool
is_said (Info title) = is_utf8 title
is_said (Title title) = is_utf8 title
is_said (Link title url) = is_utf8 title
is_said (Item kind title selector place) = is_utf8 title && is_utf8 selector
is_said Comment = true
is_said Listing = true
is_said End = true

abbrev pub titled_at : List ℕ → Result (List ℕ) Refused → List Titled
titled_at title (Err refused) = []
titled_at title (Ok selector) = (selector, title) ∷ []

-- where neither host nor port is told it is an item of this site
abbrev pub title_here : List ℕ → List ℕ → List ℕ → List ℕ → Option (List ℕ) → Option ℕ → List Titled
title_here top folder title selector None None = titled_at title (resolved top folder selector)
title_here top folder title selector None (Some port) = []
title_here top folder title selector (Some host) port = []

-- the title that a line says of an item of this site
abbrev pub title_of_line : List ℕ → List ℕ → Line → List Titled
title_of_line top folder (Item kind title selector place) = title_here top folder title selector place.host place.port
title_of_line top folder (Info title) = []
title_of_line top folder (Title title) = []
title_of_line top folder (Link title url) = []
title_of_line top folder Comment = []
title_of_line top folder Listing = []
title_of_line top folder End = []

abbrev pub titles_of_read : List ℕ → List ℕ → ReadLine → List Titled
titles_of_read top folder (Err fault) = []
titles_of_read top folder (Ok line) = if is_said line then title_of_line top folder line else []

abbrev pub titles_in : List ℕ → List ℕ → List ReadLine → List Titled
titles_in top folder lines = flat_map (titles_of_read top folder) lines

-- the title of the menu, where a line says it
abbrev pub heading_of : Line → Option (List ℕ)
heading_of (Title title) = if is_utf8 title then Some title else None
heading_of (Item kind title selector place) = None
heading_of (Info title) = None
heading_of (Link title url) = None
heading_of Comment = None
heading_of Listing = None
heading_of End = None

abbrev pub heading_of_read : ReadLine → Option (List ℕ)
heading_of_read (Err fault) = None
heading_of_read (Ok line) = heading_of line

abbrev pub heading_in : List ReadLine → Option (List ℕ)
heading_in [] = None
heading_in (line ∷ others) = or_else (heading_of_read line) (heading_in others)

abbrev pub name_or : Result (List ℕ) Refused → List ℕ → List ℕ
name_or (Err refused) title = title
name_or (Ok name) title = name

abbrev pub title_or : Option (List ℕ) → List ℕ → List ℕ
title_or None title = title
title_or (Some heading) title = name_or (name_of is_field 69 heading) title

-- the title that the menu above says, or that of its own gophermap, or its name
abbrev pub menu_title : Folder → List ReadLine → List ℕ
menu_title folder lines = if folder.is_titled then folder.title else title_or (heading_in lines) folder.title

-- ---- its entries, and what is left out

abbrev pub all_listed : List Entry → Line → List Entry
all_listed listing Listing = listing
all_listed listing (Info title) = []
all_listed listing (Title title) = []
all_listed listing (Link title url) = []
all_listed listing (Item kind title selector place) = []
all_listed listing Comment = []
all_listed listing End = []

abbrev pub one_entry : Result (Option Entry) ImportFault → List Entry
one_entry (Err fault) = []
one_entry (Ok None) = []
one_entry (Ok (Some entry)) = entry ∷ []

abbrev pub entries_of_line : List ℕ → List ℕ → List Entry → Line → List Entry
entries_of_line top folder listing line = all_listed listing line ++ one_entry (entry_of top folder line)

abbrev pub entries_of_read : List ℕ → List ℕ → List Entry → ReadLine → List Entry
entries_of_read top folder listing (Err fault) = []
entries_of_read top folder listing (Ok line) = if is_said line then entries_of_line top folder listing line else []

abbrev pub entries_in : List ℕ → List ℕ → List Entry → List ReadLine → List Entry
entries_in top folder listing lines = flat_map (entries_of_read top folder listing) lines

-- a line that is left out, and why
abbrev pub line_left_out : List ℕ → ℕ → List ℕ → List ℕ
line_left_out folder number why = left_out (path_of folder (codes "gophermap")) (at_line number why)

abbrev pub no_entry : List ℕ → ℕ → Result (Option Entry) ImportFault → List ℕ
no_entry folder number (Err fault) = line_left_out folder number (import_why fault)
no_entry folder number (Ok entry) = []

abbrev pub told_of_line : List ℕ → List ℕ → ℕ → Line → List ℕ
told_of_line top folder number line = no_entry folder number (entry_of top folder line)

abbrev pub told_of_read : List ℕ → List ℕ → ℕ → ReadLine → List ℕ
told_of_read top folder number (Err fault) = line_left_out folder number (line_field fault ++ line_name fault)
told_of_read top folder number (Ok line) = if is_said line then told_of_line top folder number line else line_left_out folder number (codes "not UTF-8")

-- lines are counted from 1
abbrev pub told_in : List ℕ → List ℕ → ℕ → List ReadLine → List ℕ
told_in top folder number [] = []
told_in top folder number (line ∷ others) = told_of_read top folder number line ++ told_in top folder (number + 1) others

abbrev pub menu_entries : List ℕ → List ℕ → List Entry → Option (List ℕ) → List Entry
menu_entries top folder listing None = listing
menu_entries top folder listing (Some bytes) = entries_in top folder listing (lines_of bytes)
