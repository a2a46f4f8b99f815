-- What is said of a change that is refused: its item, and where it is too long, what of it is.
use Rattle.std.specs.Prelude.{ℕ, ◌*◌, nat_lt, Bool, false, List, ◌++◌, Option, Some, None, codes, decimal, length, bytes_eq, option_map, is_some, if◌then◌else◌}
use Rattle.std.specs.List.{list_any}
use Rattle.common_types.specs.declared.refused.Refused.{Refused}
use Rattle.common_types.specs.declared.refused.Refused.TheVariants.{TooLong}
use Rattle.host_types.specs.Items.{most_view_bytes}
use Rattle.toml.specs.Data.{Data, Members, as_table, get_member}
use Rattle.toml.specs.Parse.{parse_document}
use Rattle.change_file.specs.Tables.{◌>>=◌, table_at, text_at, values_at}
use Rattle.change_flaws.specs.Flaws.{table_of}
use Rattle.common_types.specs.Shown.{shown}

-- the first of two, where it is there, and else the second
infixr 4 ◌orelse◌
abbrev pub ◌orelse◌ : {A : Type 0} → Option A → Option A → Option A
Some x orelse other = Some x
None orelse other = other

-- ---- the item

-- a selector as it is printed, between quotes
abbrev pub quoted : List ℕ → List ℕ
quoted selector = codes "\"" ++ shown selector ++ codes "\""

-- what is done to the item of a selector, and to that whose selector stands at a key
abbrev pub done_to : List ℕ → List ℕ → List ℕ
done_to verb selector = verb ++ codes " " ++ quoted selector

abbrev pub done_at : List ℕ → List ℕ → Members → Option (List ℕ)
done_at verb key table = option_map (done_to verb) (text_at key table)

abbrev pub move : Members → Option (List ℕ)
move table = do
  from ← done_at (codes "moves") (codes "from") table
  to ← done_at (codes " to") (codes "to") table
  Some (from ++ to)

-- what a change of a word does, and to which item
abbrev pub deed_of : List ℕ → Members → Option (List ℕ)
deed_of word table =
    if bytes_eq word (codes "put") then done_at (codes "puts") (codes "selector") table
    else if bytes_eq word (codes "remove") then done_at (codes "removes") (codes "selector") table
    else if bytes_eq word (codes "move") then move table
    else if bytes_eq word (codes "host") then Some (codes "sets the host")
    else if bytes_eq word (codes "admin") then Some (codes "sets the administrator")
    else None

abbrev pub deed : Members → Option (List ℕ)
deed table = do
  word ← text_at (codes "do") table
  deed_of word table

-- ---- what is too long

abbrev pub is_above : ℕ → Option (List ℕ) → Bool
is_above most None = false
is_above most (Some text) = nat_lt most (length text)

-- the text at a key has more than so many bytes
abbrev pub long_at : List ℕ → ℕ → Members → Option (List ℕ)
long_at key most table = if is_above most (text_at key table) then Some (codes "its " ++ key ++ codes " is longer than " ++ decimal most ++ codes " bytes") else None

-- there are more than so many values in the array at a key
abbrev pub are_above : ℕ → Option (List Data) → Bool
are_above most None = false
are_above most (Some values) = nat_lt most (length values)

abbrev pub many_at : List ℕ → ℕ → Members → Option (List ℕ)
many_at key most table = if are_above most (values_at key table) then Some (codes "its " ++ key ++ codes " is longer than " ++ decimal most ++ codes " items") else None

-- a table in the array at a key has a text of more than so many bytes at another
abbrev pub text_in : List ℕ → Data → Option (List ℕ)
text_in key value = do
  table ← as_table value
  text_at key table

abbrev pub any_above : List ℕ → ℕ → Option (List Data) → Bool
any_above key most None = false
any_above key most (Some values) = list_any (λ value. is_above most (text_in key value)) values

abbrev pub long_in : List ℕ → List ℕ → ℕ → Members → Option (List ℕ)
long_in array key most table = if any_above key most (values_at array table) then Some (codes "one " ++ key ++ codes " is longer than " ++ decimal most ++ codes " bytes") else None

-- the texts of a change, each with the most bytes that it may have
abbrev pub long_selector : Members → Option (List ℕ)
long_selector table = long_at (codes "selector") 255 table orelse long_at (codes "from") 255 table orelse long_at (codes "to") 255 table orelse long_at (codes "search") 255 table

abbrev pub long_name : Members → Option (List ℕ)
long_name table = long_at (codes "title") 69 table orelse long_at (codes "host") 100 table orelse long_at (codes "admin") 100 table

abbrev pub most_summary : ℕ
most_summary = 400

abbrev pub long_text : Members → Option (List ℕ)
long_text table = long_at (codes "abstract") most_summary table orelse long_at (codes "text") most_view_bytes table

-- the values of a body, and how many there may be
abbrev pub long_list : Members → Option (List ℕ)
long_list table = many_at (codes "menu") 100 table orelse many_at (codes "views") 8 table

-- the texts in a body, likewise
abbrev pub long_entry : Members → Option (List ℕ)
long_entry table =
    long_in (codes "menu") (codes "local") 255 table orelse long_in (codes "menu") (codes "selector") 255 table
    orelse long_in (codes "menu") (codes "info") 69 table orelse long_in (codes "menu") (codes "title") 69 table
    orelse long_in (codes "menu") (codes "url") 251 table orelse long_in (codes "menu") (codes "host") 100 table

abbrev pub long_view : Members → Option (List ℕ)
long_view table =
    long_in (codes "views") (codes "name") 40 table orelse long_in (codes "views") (codes "language") 10 table
    orelse long_in (codes "views") (codes "text") most_view_bytes table orelse long_in (codes "views") (codes "hex") (2 * most_view_bytes) table

abbrev pub long_question : Members → Option (List ℕ)
long_question form =
    long_in (codes "questions") (codes "ask") 69 form orelse long_in (codes "questions") (codes "askl") 69 form
    orelse long_in (codes "questions") (codes "askp") 69 form orelse long_in (codes "questions") (codes "choose") 69 form
    orelse long_in (codes "questions") (codes "word") 40 form

abbrev pub long_form : Members → Option (List ℕ)
long_form table = do
  form ← table_at (codes "form") table
  long_at (codes "board") 255 form orelse many_at (codes "questions") 16 form orelse long_question form

abbrev pub long_body : Members → Option (List ℕ)
long_body table = long_list table orelse long_entry table orelse long_view table orelse long_form table

-- boards have shorter selectors, since their posts have longer ones: one that is put, and one that is moved, which alone is refused so
abbrev pub puts_board : Members → Bool
puts_board table = is_some (get_member (codes "board") table)

abbrev pub long_board : Members → Option (List ℕ)
long_board table = if puts_board table then long_at (codes "selector") 229 table else long_at (codes "to") 229 table

abbrev pub excess : Members → Option (List ℕ)
excess table = long_selector table orelse long_name table orelse long_text table orelse long_body table orelse long_board table

-- ---- the line

-- what is said of why it is refused, if anything
abbrev pub reason : Refused → Members → Option (List ℕ)
reason TooLong table = excess table
reason _ table = None

abbrev pub behind : Option (List ℕ) → List ℕ
behind None = codes "."
behind (Some said) = codes ": " ++ said ++ codes "."

-- the line of a change of a number that does so, with that behind a colon
abbrev pub item_text : ℕ → List ℕ → List ℕ
item_text number done = codes "Change " ++ decimal number ++ codes " " ++ done

abbrev pub line_with : ℕ → List ℕ → Option (List ℕ) → List ℕ
line_with number done said = item_text number done ++ behind said

abbrev pub table_line : ℕ → Refused → Members → Option (List ℕ)
table_line number refused table = option_map (λ done. line_with number done (reason refused table)) (deed table)

abbrev pub document_line : ℕ → Refused → Members → Option (List ℕ)
document_line number refused document = do
  table ← table_of number document
  table_line number refused table

-- what is said of the change of this number of a file, which is refused so
abbrev pub refusal_line : ℕ → Refused → List ℕ → Option (List ℕ)
refusal_line number refused file = do
  document ← parse_document file
  document_line number refused document

-- ---- an item that is removed by its name alone

abbrev pub name_reason : Refused → List ℕ → Option (List ℕ)
name_reason TooLong name = if nat_lt 255 (length name) then Some (codes "its selector is longer than 255 bytes") else None
name_reason _ name = None

-- the same of a change that removes the item of this name
abbrev pub removal_line : ℕ → Refused → List ℕ → List ℕ
removal_line number refused name = line_with number (done_to (codes "removes") name) (name_reason refused name)
