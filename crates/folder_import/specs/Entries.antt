-- The entry of a menu that a line of a gophermap says.
use Rattle.std.specs.Prelude.{ℕ, List, Option, Some, None, Result, Ok, Err}
use Rattle.common_types.specs.Names.{name_of, is_field, is_word, is_url}
use Rattle.common_types.specs.declared.refused.Refused.{Refused}
use Rattle.host_types.specs.declared.menu.Entry.{Entry}
use Rattle.host_types.specs.declared.menu.Entry.TheVariants as entries
use Rattle.host_types.specs.declared.menu.LinkKind.{LinkKind}
use Rattle.gophermap.specs.Line.{Line, Info, Title, Link, Entry as Item, Comment, Listing, End}
use Rattle.folder_import.specs.Selectors.{resolved}
use Rattle.folder_import.specs.declared.fault.ImportFault.{ImportFault}
use Rattle.folder_import.specs.declared.fault.ImportFault.TheVariants as faults

infixl 10 ◌>>=◌
abbrev pub ◌>>=◌ : {A B : Type 0} → Result A ImportFault → (A → Result B ImportFault) → Result B ImportFault
Err fault >>= next = Err fault
Ok a >>= next = next a

-- a name, or the fault where it is refused
abbrev pub named : Result (List ℕ) Refused → Result (List ℕ) ImportFault
named (Ok name) = Ok name
named (Err refused) = Err (faults.Name refused)

abbrev pub title_of : List ℕ → Result (List ℕ) ImportFault
title_of bytes = named (name_of is_field 69 bytes)

abbrev pub info : List ℕ → Result (Option Entry) ImportFault
info title = do
  t ← title_of title
  Ok (Some (entries.Info t))

abbrev pub link : List ℕ → List ℕ → Result (Option Entry) ImportFault
link title url = do
  t ← title_of title
  u ← named (name_of is_url 251 url)
  Ok (Some (entries.Url t u))

abbrev pub local : List ℕ → List ℕ → List ℕ → Result (Option Entry) ImportFault
local top folder selector = do
  s ← named (resolved top folder selector)
  Ok (Some (entries.Local s))

abbrev pub remote : LinkKind → List ℕ → List ℕ → List ℕ → ℕ → Result (Option Entry) ImportFault
remote kind title selector host port = do
  t ← title_of title
  s ← named (name_of is_field 255 selector)
  h ← named (name_of is_word 100 host)
  Ok (Some (entries.Remote kind t s h port))

-- an item of this site where neither host nor port is told, and else of another
abbrev pub placed : List ℕ → List ℕ → LinkKind → List ℕ → List ℕ → Option (List ℕ) → Option ℕ → Result (Option Entry) ImportFault
placed top folder kind title selector None None = local top folder selector
placed top folder kind title selector (Some host) (Some port) = remote kind title selector host port
placed top folder kind title selector (Some host) None = Err faults.Place
placed top folder kind title selector None (Some port) = Err faults.Place

-- what a menu gets of a line; some lines give it nothing
abbrev pub entry_of : List ℕ → List ℕ → Line → Result (Option Entry) ImportFault
entry_of top folder (Info title) = info title
entry_of top folder (Link title url) = link title url
entry_of top folder (Item kind title selector place) = placed top folder kind title selector place.host place.port
entry_of top folder (Title title) = Ok None
entry_of top folder Comment = Ok None
entry_of top folder Listing = Ok None
entry_of top folder End = Ok None
