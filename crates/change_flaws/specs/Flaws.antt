-- What is wrong with a file of changes, where a line can say it.
use Rattle.std.specs.Prelude.{◌≡◌, ◌≤◌, nat_eq, ℕ, zero, suc, ◌+◌, not, List, [], ◌∷◌, ◌++◌, Option, Some, None, codes, decimal, filter, length, take, bytes_eq, if◌then◌else◌, IsUtf8, IsSome}
use Rattle.std.specs.Option.{is_none}
use Rattle.std.specs.List.{find}
use Rattle.toml.specs.Data.{Data, Members, no_members, member, get_member, get_item, as_array, as_table}
use Rattle.toml.specs.Parse.{parse_document}
use Rattle.change_file.specs.Tables.{◌>>=◌, is_among, text_at}
use Rattle.change_file.specs.declared.fault.ChangeFileFault.{ChangeFileFault}
use Rattle.change_file.specs.declared.fault.ChangeFileFault.TheVariants.{NotToml, Table, Memory}
use Rattle.common_types.specs.Shown.{shown}

-- the keys of a table, in its order
abbrev pub keys_in : Members → List (List ℕ)
keys_in no_members = []
keys_in (member key value others) = key ∷ keys_in others

-- the first that is none of some keys
abbrev pub first_other : List (List ℕ) → Members → Option (List ℕ)
first_other keys table = find (λ key. not (is_among keys key)) (keys_in table)

-- the keys that changes of a word have, where changes have that word
abbrev pub keys_of : List ℕ → Option (List (List ℕ))
keys_of word =
    if bytes_eq word (codes "put") then Some (codes "do" ∷ codes "selector" ∷ codes "title" ∷ codes "abstract" ∷ codes "until" ∷ codes "text" ∷ codes "kind" ∷ codes "views" ∷ codes "menu" ∷ codes "board" ∷ codes "form" ∷ codes "search" ∷ [])
    else if bytes_eq word (codes "remove") then Some (codes "do" ∷ codes "selector" ∷ [])
    else if bytes_eq word (codes "move") then Some (codes "do" ∷ codes "from" ∷ codes "to" ∷ [])
    else if bytes_eq word (codes "host") then Some (codes "do" ∷ codes "host" ∷ codes "port" ∷ [])
    else if bytes_eq word (codes "admin") then Some (codes "do" ∷ codes "admin" ∷ [])
    else None

-- the first key of a table that no change of its word has
abbrev pub unknown_key : Members → Option (List ℕ)
unknown_key table = do
  word ← text_at (codes "do") table
  keys ← keys_of word
  first_other keys table

-- the word of a table, where no changes have it
abbrev pub unknown_word : Members → Option (List ℕ)
unknown_word table = do
  word ← text_at (codes "do") table
  if is_none (keys_of word) then Some word else None

-- the first of two keys that a table has not
abbrev pub first_missing : List ℕ → List ℕ → Members → Option (List ℕ)
first_missing first second table =
    if is_none (get_member first table) then Some first
    else if is_none (get_member second table) then Some second
    else None

-- the first key that a table has not, and that changes of its word need
abbrev pub missing_of : List ℕ → Members → Option (List ℕ)
missing_of word table =
    if bytes_eq word (codes "put") then first_missing (codes "selector") (codes "title") table
    else if bytes_eq word (codes "remove") then first_missing (codes "selector") (codes "selector") table
    else if bytes_eq word (codes "move") then first_missing (codes "from") (codes "to") table
    else if bytes_eq word (codes "host") then first_missing (codes "host") (codes "port") table
    else if bytes_eq word (codes "admin") then first_missing (codes "admin") (codes "admin") table
    else None

-- that of a table with a word, or with none
abbrev pub missing_if_any : Option (List ℕ) → Members → Option (List ℕ)
missing_if_any None table = first_missing (codes "do") (codes "do") table
missing_if_any (Some word) table = missing_of word table

abbrev pub missing_key : Members → Option (List ℕ)
missing_key table = missing_if_any (text_at (codes "do") table) table

-- the value at a place of an array
abbrev pub value_of : ℕ → Data → Option Data
value_of place value = do
  items ← as_array value
  get_item place items

-- the table of a number, from 1
abbrev pub table_of : ℕ → Members → Option Members
table_of zero document = None
table_of (suc place) document = do
  changes ← get_member (codes "change") document
  change ← value_of place changes
  as_table change

-- what is said of a word, of a key and of the selector beside it, where there is one
abbrev pub word_text : List ℕ → List ℕ
word_text word = codes "There is no change with the word " ++ shown word ++ codes "."

abbrev pub missing_text : List ℕ → List ℕ
missing_text key = codes "It has no key " ++ key ++ codes "."

abbrev pub key_text : List ℕ → List ℕ
key_text key = codes "No change of its kind has the key " ++ shown key ++ codes "."

abbrev pub selector_text : List ℕ → List ℕ
selector_text selector = codes " Its selector is " ++ shown selector ++ codes "."

abbrev pub selector_if_any : Option (List ℕ) → List ℕ
selector_if_any None = []
selector_if_any (Some selector) = selector_text selector

-- what is said of an unknown word, an unknown key, or a missing one
abbrev pub first_flaw : Option (List ℕ) → Option (List ℕ) → Option (List ℕ) → Option (List ℕ)
first_flaw (Some word) key missing = Some (word_text word)
first_flaw None (Some key) missing = Some (key_text key)
first_flaw None None (Some key) = Some (missing_text key)
first_flaw None None None = None

abbrev pub key_flaw : Members → Option (List ℕ)
key_flaw table = first_flaw (unknown_word table) (unknown_key table) (missing_key table)

-- the same with the selector
abbrev pub table_text : Members → Option (List ℕ)
table_text table = do
  flaw ← key_flaw table
  Some (flaw ++ selector_if_any (text_at (codes "selector") table))

-- what is said of the table of this number
abbrev pub numbered_text : ℕ → Members → Option (List ℕ)
numbered_text number document = do
  table ← table_of number document
  table_text table

-- the same of a text, where it is a document
abbrev pub document_text : ℕ → List ℕ → Option (List ℕ)
document_text number text = do
  document ← parse_document text
  numbered_text number document

-- how many LFs there are
abbrev pub line_feeds : List ℕ → ℕ
line_feeds text = length (filter (λ byte. nat_eq byte 10) text)

-- the number of the line at a place of a text
abbrev pub line_at : ℕ → List ℕ → ℕ
line_at place text = line_feeds (take place text) + 1

abbrev pub line_text : ℕ → List ℕ
line_text line = codes "Line " ++ decimal line ++ codes " is no TOML."

-- This line is said of a text that breaks at some place; none is said of a document.
abbrev pub SaysBreak : List ℕ → Option (List ℕ) → Type 0
SaysBreak text None = IsUtf8 text × IsSome (parse_document text)
SaysBreak text (Some said) = (place : ℕ) × (place ≤ length text) × (said ≡ line_text (line_at place text))

-- This is said of a file that could not be read for this fault: the line that is no TOML, or an unknown word, an unknown key or a missing one of a table, where there is one.
abbrev pub SaysFlaw : List ℕ → ChangeFileFault → Option (List ℕ) → Type 0
SaysFlaw text NotToml said = SaysBreak text said
SaysFlaw text (Table number) said = IsUtf8 text → said ≡ document_text number text
SaysFlaw text Memory said = said ≡ None
