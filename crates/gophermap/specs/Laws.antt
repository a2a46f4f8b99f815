-- What holds of what is read, for every line and every file.
use Rattle.std.specs.Prelude.{◌≡◌, ℕ, ◌&&◌, Bool, true, false, List, ◌++◌, codes, nat_lt, Option, Some, None, Ok, Err}
use Rattle.std.specs.List.{list_all}
use Rattle.host_types.specs.Items.{is_title, is_selector, is_host, is_link}
use Rattle.gophermap.specs.Line.{MapPlace, Line, ReadLine, Info, Title, Link, Entry, Comment, Listing, End, line_of, lines_of}

-- ---- limits

abbrev pub host_fits : Option (List ℕ) → Bool
host_fits None = true
host_fits (Some host) = is_host host

abbrev pub port_fits : Option ℕ → Bool
port_fits None = true
port_fits (Some port) = nat_lt 0 port && nat_lt port 65536

abbrev pub place_fits : MapPlace → Bool
place_fits place = host_fits place.host && port_fits place.port

-- the names are such as the types of the site take, and a port is one
abbrev pub fits : Line → Bool
fits (Info title) = is_title title
fits (Title title) = is_title title
fits (Link title url) = is_title title && is_link url
fits (Entry kind title selector place) = is_title title && (is_selector selector && place_fits place)
fits Comment = true
fits Listing = true
fits End = true

abbrev pub LinesFit : Type 0
LinesFit = (bytes : List ℕ) (line : Line) → line_of bytes ≡ Ok line → fits line ≡ true

-- ---- the end of a file

-- Behind a line that is `.` or `*` alone, what a file has makes no difference.
pub record EndsThere : Type 0 where
  pub end : (front behind : List ℕ) → lines_of (front ++ codes "\n.\n" ++ behind) ≡ lines_of (front ++ codes "\n.\n")
  pub listing : (front behind : List ℕ) → lines_of (front ++ codes "\n*\n" ++ behind) ≡ lines_of (front ++ codes "\n*\n")

-- ---- a whole file

abbrev pub is_read : ReadLine → Bool
is_read (Ok line) = true
is_read (Err fault) = false

-- no line of a file is refused
abbrev pub all_read : List ℕ → Bool
all_read file = list_all is_read (lines_of file)
