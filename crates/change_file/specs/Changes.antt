-- The changes of a file: what each table says, and the first table that says none.
use Rattle.std.specs.Prelude.{ℕ, ◌+◌, ◌&&◌, Bool, false, List, [], ◌∷◌, Option, Some, None, is_none, is_some, Result, Ok, Err, codes, bytes_eq, option_map, if◌then◌else◌}
use Rattle.std.specs.List.{list_all, position_or_len}
use Rattle.common_types.specs.declared.refused.Refused.{Refused as Refusal}
use Rattle.host_types.specs.declared.item.Item.{Item}
use Rattle.host_types.specs.declared.item.Body.{Body}
use Rattle.host_types.specs.declared.change.Change.{Change as SiteChange}
use Rattle.host_types.specs.declared.change.Change.TheVariants as changes
use Rattle.toml.specs.Parse.{parse_document}
use Rattle.toml.specs.Data.{Data, Members, as_table}
use Rattle.change_file.specs.Tables.{◌>>=◌, has_only, text_at, optional_text_at, optional_moment_at, values_at, each}
use Rattle.change_file.specs.Named.{◌◂◌, name_at, port_at, selector_named, title_named, host_named, admin_named}
use Rattle.change_file.specs.Bodies.{body_in}
use Rattle.change_file.specs.declared.fault.FileChange.{FileChange}
use Rattle.change_file.specs.declared.fault.FileChange.TheVariants.{Change, Refused}

-- the item as a change puts it, whose stamp is that of the change
abbrev pub item_with : List ℕ → Option ℕ → List ℕ → Body → Item
item_with summary until title body = record { title = title; stamp = 0; until = until; summary = summary; body = body }

-- ---- changes of their names

abbrev pub put : List ℕ → Option ℕ → Result (List ℕ) Refusal → Result (List ℕ) Refusal → Result Body Refusal → Result SiteChange Refusal
put summary until selector title body = Ok (λ s t b. changes.Put s (item_with summary until t b)) ◂ selector ◂ title ◂ body

abbrev pub remove : Result (List ℕ) Refusal → Result SiteChange Refusal
remove selector = Ok (λ s. changes.Remove s) ◂ selector

abbrev pub move : Result (List ℕ) Refusal → Result (List ℕ) Refusal → Result SiteChange Refusal
move from to = Ok (λ f t. changes.Move f t) ◂ from ◂ to

abbrev pub set_host : Result (List ℕ) Refusal → Result ℕ Refusal → Result SiteChange Refusal
set_host host port = Ok (λ h p. changes.SetHost h p) ◂ host ◂ port

abbrev pub set_admin : Result (List ℕ) Refusal → Result SiteChange Refusal
set_admin admin = Ok (λ a. changes.SetAdmin a) ◂ admin

-- ---- changes of their tables

-- a table that puts an item, but for its body: it has the keys that it must have, and of their types
abbrev pub begins_put : Members → Bool
begins_put table =
    is_some (text_at (codes "selector") table) && is_some (text_at (codes "title") table)
    && is_some (optional_text_at (codes "abstract") table) && is_some (optional_moment_at (codes "until") table)

abbrev pub put_in : Members → Option (Result SiteChange Refusal)
put_in table = do
  selector ← name_at selector_named (codes "selector") table
  title ← name_at title_named (codes "title") table
  summary ← optional_text_at (codes "abstract") table
  until ← optional_moment_at (codes "until") table
  body ← body_in table
  Some (put summary until selector title body)

abbrev pub remove_in : Members → Option (Result SiteChange Refusal)
remove_in table = do
  selector ← name_at selector_named (codes "selector") table
  Some (remove selector)

abbrev pub move_in : Members → Option (Result SiteChange Refusal)
move_in table = do
  from ← name_at selector_named (codes "from") table
  to ← name_at selector_named (codes "to") table
  Some (move from to)

abbrev pub host_in : Members → Option (Result SiteChange Refusal)
host_in table = do
  host ← name_at host_named (codes "host") table
  port ← port_at (codes "port") table
  Some (set_host host port)

abbrev pub admin_in : Members → Option (Result SiteChange Refusal)
admin_in table = do
  admin ← name_at admin_named (codes "admin") table
  Some (set_admin admin)

abbrev pub is : List ℕ → List ℕ → Bool
is word name = bytes_eq word name

-- what puts nothing has the keys of its word alone
abbrev pub small_change : List ℕ → Members → Option (Result SiteChange Refusal)
small_change word table =
    if is word (codes "remove") && has_only (codes "do" ∷ codes "selector" ∷ []) table then remove_in table
    else if is word (codes "move") && has_only (codes "do" ∷ codes "from" ∷ codes "to" ∷ []) table then move_in table
    else if is word (codes "host") && has_only (codes "do" ∷ codes "host" ∷ codes "port" ∷ []) table then host_in table
    else if is word (codes "admin") && has_only (codes "do" ∷ codes "admin" ∷ []) table then admin_in table
    else None

-- whether it is this text
abbrev pub some_is : Option (List ℕ) → List ℕ → Bool
some_is None name = false
some_is (Some word) name = is word name

-- the change of a table by its word
abbrev pub change_by : List ℕ → Members → Option (Result SiteChange Refusal)
change_by word table = if is word (codes "put") then put_in table else small_change word table

-- a change, or the first name of it that its type refuses
abbrev pub file_change : Result SiteChange Refusal → FileChange
file_change (Ok change) = Change change
file_change (Err refused) = Refused refused

abbrev pub change_of : Data → Option FileChange
change_of value = do
  table ← as_table value
  word ← text_at (codes "do") table
  change ← change_by word table
  Some (file_change change)

-- a table whose word is to put an item, and which begins as such a table does
abbrev pub puts : Members → Bool
puts table = some_is (text_at (codes "do") table) (codes "put") && begins_put table

-- ---- a whole document

abbrev pub is_table : Data → Bool
is_table value = is_some (as_table value)

-- the outer table: an array of tables, and nothing else
abbrev pub tables_in : Members → Option (List Data)
tables_in document = do
  values ← values_at (codes "change") document
  if has_only (codes "change" ∷ []) document && list_all is_table values then Some values else None

abbrev pub says_none : Data → Bool
says_none value = is_none (change_of value)

-- all changes, or a number
abbrev pub changes_or : Option (List FileChange) → ℕ → Result (List FileChange) ℕ
changes_or None number = Err number
changes_or (Some changes) number = Ok changes

-- the changes of some tables, or the number, from 1, of the first that says none
abbrev pub changes_of_tables : List Data → Result (List FileChange) ℕ
changes_of_tables tables = changes_or (each change_of tables) (position_or_len says_none tables + 1)

abbrev pub changes_of_outer : Option (List Data) → Result (List FileChange) ℕ
changes_of_outer None = Err 0
changes_of_outer (Some tables) = changes_of_tables tables

-- the changes of a document, or the number of the table that is wrong: 0 is the outer one
abbrev pub changes_of : Members → Result (List FileChange) ℕ
changes_of document = changes_of_outer (tables_in document)

-- what a text says, where it is a document of TOML
abbrev pub read : List ℕ → Option (Result (List FileChange) ℕ)
read text = option_map changes_of (parse_document text)
