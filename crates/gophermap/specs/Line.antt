-- Lines of a gophermap, as gophernicus (its README, 'Gophermaps') and Bucktooth (its manual, 'gophermap') both read them: lines to read, and type and title, selector, host and port with TABs between them.
-- Lines that begin with `#` or `!`, and `*` and `.` alone, are read as gophernicus's README says them.
-- The names' limits, and which types there are, are this project's profile.
use Rattle.std.specs.Prelude.{ℕ, ◌==◌, ◌&&◌, Bool, true, false, List, [], ◌∷◌, drop, map, find, codes, nat_lt, Option, Some, None, Result, Ok, Err, if◌then◌else◌}
use Rattle.std.specs.List.{list_any, slice_split, onto_first}
use Rattle.std.specs.Option.{ok_or}
use Rattle.std.specs.Str.{bytes_eq}
use Rattle.common_types.specs.Names.{name_of, is_field, is_word, is_url, is_url_name}
use Rattle.common_types.specs.Digits.{is_number, number_of}
use Rattle.common_types.specs.declared.refused.Refused.{Refused}
use Rattle.host_types.specs.Items.{link_letter}
use Rattle.host_types.specs.Lines.{without_cr}
use Rattle.host_types.specs.declared.menu.LinkKind.{LinkKind}
use Rattle.host_types.specs.declared.menu.LinkKind.TheVariants as links
use Rattle.gophermap.specs.declared.fault.LineFault.{LineFault}
use Rattle.gophermap.specs.declared.fault.LineFault.TheVariants as faults

-- Where an item lies. Where host or port is none, it is the one of the server that gives the menu.
pub record MapPlace : Type 0 where
  pub host : Option (List ℕ)
  pub port : Option ℕ

-- what a line says
pub data Line : Type 0 where
  Info : (title : List ℕ) → Line
  Title : (title : List ℕ) → Line
  Link : (title url : List ℕ) → Line
  Entry : (kind : LinkKind) (title selector : List ℕ) (place : MapPlace) → Line
  Comment : Line
  Listing : Line
  End : Line

-- a line that is read, or why it says nothing that a menu of ours can show
abbrev pub ReadLine : Type 0
ReadLine = Result Line LineFault

infixl 10 ◌>>=◌
abbrev pub ◌>>=◌ : {A B : Type 0} → Result A LineFault → (A → Result B LineFault) → Result B LineFault
Err fault >>= next = Err fault
Ok a >>= next = next a

-- ---- names

-- a name of a type of the site, and the fault where it is refused
abbrev pub named : (Refused → LineFault) → Result (List ℕ) Refused → Result (List ℕ) LineFault
named fault (Ok name) = Ok name
named fault (Err refused) = Err (fault refused)

abbrev pub title_of : List ℕ → Result (List ℕ) LineFault
title_of bytes = named (λ r. faults.Title r) (name_of is_field 69 bytes)

abbrev pub selector_of : List ℕ → Result (List ℕ) LineFault
selector_of bytes = named (λ r. faults.Selector r) (name_of is_field 255 bytes)

abbrev pub url_of : List ℕ → Result (List ℕ) LineFault
url_of bytes = named (λ r. faults.Link r) (name_of is_url 251 bytes)

abbrev pub given_host : List ℕ → Result (List ℕ) LineFault
given_host bytes = named (λ r. faults.Host r) (name_of is_word 100 bytes)

-- an empty field is left out
abbrev pub host_of : List ℕ → Result (Option (List ℕ)) LineFault
host_of [] = Ok None
host_of (b ∷ bs) = do
  host ← given_host (b ∷ bs)
  Ok (Some host)

-- one to five digits, which write a number of 1 to 65535
abbrev pub is_port : List ℕ → Bool
is_port digits = is_number 5 digits && (nat_lt 0 (number_of digits) && nat_lt (number_of digits) 65536)

abbrev pub port_of : List ℕ → Result (Option ℕ) LineFault
port_of [] = Ok None
port_of (b ∷ bs) = if is_port (b ∷ bs) then Ok (Some (number_of (b ∷ bs))) else Err faults.Port

abbrev pub place_of : List ℕ → List ℕ → Result MapPlace LineFault
place_of host port = do
  h ← host_of host
  p ← port_of port
  Ok (record { host = h; port = p })

-- ---- items

abbrev pub all_links : List LinkKind
all_links =
    links.Text ∷ links.Menu ∷ links.PhoneBook ∷ links.BinHex ∷ links.DosArchive ∷ links.Uuencoded ∷ links.Search
    ∷ links.Telnet ∷ links.Binary ∷ links.Mirror ∷ links.Tn3270 ∷ links.Gif ∷ links.Image ∷ links.Html ∷ []

-- the kind that this letter stands for in a menu
abbrev pub kind_of : ℕ → Result LinkKind LineFault
kind_of letter = ok_or (find (λ k. letter == link_letter k) all_links) faults.Kind

-- where the selector is left out, it is the title
abbrev pub selector_or : List ℕ → List ℕ → List ℕ
selector_or title [] = title
selector_or title (b ∷ bs) = b ∷ bs

abbrev pub info : List ℕ → ReadLine
info title = do
  t ← title_of title
  Ok (Info t)

abbrev pub titled : List ℕ → ReadLine
titled title = do
  t ← title_of title
  Ok (Title t)

abbrev pub link : List ℕ → List ℕ → ReadLine
link title url = do
  t ← title_of title
  u ← url_of url
  Ok (Link t u)

abbrev pub entry : LinkKind → List ℕ → List ℕ → List ℕ → List ℕ → ReadLine
entry kind title selector host port = do
  t ← title_of title
  s ← selector_of (selector_or title selector)
  p ← place_of host port
  Ok (Entry kind t s p)

-- Type `i` is a line to read, whatever else it has. Type `h` with `URL:` is a link, which lies on no server.
abbrev pub typed : ℕ → List ℕ → List ℕ → List ℕ → List ℕ → ReadLine
typed letter title selector host port =
    if letter == 105 then info title
    else if letter == 104 && is_url_name selector then link title (drop 4 selector)
    else do
      kind ← kind_of letter
      entry kind title selector host port

-- the type is the first byte
abbrev pub item : List ℕ → List ℕ → List ℕ → List ℕ → ReadLine
item [] selector host port = Err faults.Kind
item (letter ∷ title) selector host port = typed letter title selector host port

-- ---- lines

abbrev pub is_tab : ℕ → Bool
is_tab b = b == 9

-- Gophernicus does something else with such a line: it hides a file, sets a type, lists users or hosts, reads another file, or ends the menu. Bucktooth shows it.
abbrev pub is_order : List ℕ → Bool
is_order [] = false
is_order (b ∷ bs) = list_any (λ c. b == c) (codes "-:~%=*.")

-- a line without a TAB
abbrev pub alone : List ℕ → ReadLine
alone text =
    if bytes_eq text (codes "*") then Ok Listing
    else if bytes_eq text (codes ".") then Ok End
    else if is_order text then Err faults.Order
    else info text

abbrev pub of_fields : List (List ℕ) → ReadLine
of_fields [] = Err faults.Fields
of_fields (text ∷ []) = alone text
of_fields (front ∷ selector ∷ []) = item front selector [] []
of_fields (front ∷ selector ∷ host ∷ []) = item front selector host []
of_fields (front ∷ selector ∷ host ∷ port ∷ []) = item front selector host port
of_fields (front ∷ selector ∷ host ∷ port ∷ further ∷ others) = Err faults.Fields

-- a comment and a title by their first byte, whether a TAB follows or not
abbrev pub of_text : List ℕ → ReadLine
of_text [] = Ok (Info [])
of_text (first ∷ rest) =
    if first == 35 then Ok Comment
    else if first == 33 then titled rest
    else of_fields (slice_split is_tab (first ∷ rest))

-- what a line without its LF says; one CR at its end is dropped
abbrev pub line_of : List ℕ → ReadLine
line_of bytes = of_text (without_cr bytes)

-- ---- a whole file

abbrev pub is_lf : ℕ → Bool
is_lf b = b == 10

-- the file cut at each LF; a last part without LF is a line where it has bytes
abbrev pub cut : List ℕ → List (List ℕ)
cut [] = []
cut (b ∷ bs) = if is_lf b then [] ∷ cut bs else onto_first b (cut bs)

-- nothing behind such a line is read
abbrev pub is_last : ReadLine → Bool
is_last (Ok Listing) = true
is_last (Ok End) = true
is_last other = false

abbrev pub up_to_last : List ReadLine → List ReadLine
up_to_last [] = []
up_to_last (line ∷ others) = line ∷ (if is_last line then [] else up_to_last others)

-- what the lines of a file say, in their order
abbrev pub lines_of : List ℕ → List ReadLine
lines_of file = up_to_last (map line_of (cut file))
