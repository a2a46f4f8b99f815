-- The entries of a menu, as a file of changes writes them.
use Rattle.std.specs.Prelude.{ℕ, ◌==◌, List, [], ◌∷◌, Option, Some, None, Result, Ok, codes, find, if◌then◌else◌}
use Rattle.common_types.specs.declared.refused.Refused.{Refused}
use Rattle.host_types.specs.Items.{link_letter}
use Rattle.host_types.specs.declared.menu.Entry.{Entry}
use Rattle.host_types.specs.declared.menu.Entry.TheVariants.{Local, Info, Url, Remote}
use Rattle.host_types.specs.declared.menu.LinkKind.{LinkKind}
use Rattle.host_types.specs.declared.menu.LinkKind.TheVariants as links
use Rattle.toml.specs.Data.{Data, Members, as_table}
use Rattle.change_file.specs.Tables.{◌>>=◌, has_only, text_at}
use Rattle.change_file.specs.Named.{◌◂◌, name_at, port_at, selector_named, title_named, url_named, host_named}

abbrev pub all_links : List LinkKind
all_links =
    links.Text ∷ links.Menu ∷ links.PhoneBook ∷ links.BinHex ∷ links.DosArchive ∷ links.Uuencoded ∷ links.Search
    ∷ links.Telnet ∷ links.Binary ∷ links.Mirror ∷ links.Tn3270 ∷ links.Gif ∷ links.Image ∷ links.Html ∷ []

-- the kind of a link that is written by one letter
abbrev pub link_of : List ℕ → Option LinkKind
link_of (letter ∷ []) = find (λ k. letter == link_letter k) all_links
link_of letters = None

abbrev pub link_at : List ℕ → Members → Option LinkKind
link_at key table = do
  text ← text_at key table
  link_of text

-- ---- entries of their names

abbrev pub local : Result (List ℕ) Refused → Result Entry Refused
local selector = Ok (λ s. Local s) ◂ selector

abbrev pub info : Result (List ℕ) Refused → Result Entry Refused
info title = Ok (λ t. Info t) ◂ title

abbrev pub link : Result (List ℕ) Refused → Result (List ℕ) Refused → Result Entry Refused
link title url = Ok (λ t u. Url t u) ◂ title ◂ url

abbrev pub remote : LinkKind → Result (List ℕ) Refused → Result (List ℕ) Refused → Result (List ℕ) Refused → Result ℕ Refused → Result Entry Refused
remote kind title selector host port = Ok (λ t s h p. Remote kind t s h p) ◂ title ◂ selector ◂ host ◂ port

-- ---- entries of their tables

abbrev pub local_in : Members → Option (Result Entry Refused)
local_in table = do
  selector ← name_at selector_named (codes "local") table
  Some (local selector)

abbrev pub info_in : Members → Option (Result Entry Refused)
info_in table = do
  title ← name_at title_named (codes "info") table
  Some (info title)

abbrev pub url_in : Members → Option (Result Entry Refused)
url_in table = do
  title ← name_at title_named (codes "title") table
  url ← name_at url_named (codes "url") table
  Some (link title url)

abbrev pub remote_in : Members → Option (Result Entry Refused)
remote_in table = do
  kind ← link_at (codes "kind") table
  title ← name_at title_named (codes "title") table
  selector ← name_at selector_named (codes "selector") table
  host ← name_at host_named (codes "host") table
  port ← port_at (codes "port") table
  Some (remote kind title selector host port)

-- one of the four forms, by the keys that there are
abbrev pub entry_in : Members → Option (Result Entry Refused)
entry_in table =
    if has_only (codes "local" ∷ []) table then local_in table
    else if has_only (codes "info" ∷ []) table then info_in table
    else if has_only (codes "title" ∷ codes "url" ∷ []) table then url_in table
    else if has_only (codes "kind" ∷ codes "title" ∷ codes "selector" ∷ codes "host" ∷ codes "port" ∷ []) table then remote_in table
    else None

abbrev pub entry_of : Data → Option (Result Entry Refused)
entry_of value = do
  table ← as_table value
  entry_in table
