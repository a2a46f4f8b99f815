-- Worked examples of lines of gophermaps, and of whole files.
use Rattle.std.specs.Prelude.{◌≡◌, ℕ, ◌++◌, List, [], ◌∷◌, codes, replicate, Some, None, Ok, Err}
use Rattle.common_types.specs.declared.refused.Refused.TheVariants.{BadName, TooLong}
use Rattle.host_types.specs.declared.menu.LinkKind.TheVariants as links
use Rattle.gophermap.specs.declared.fault.LineFault.TheVariants as faults
use Rattle.gophermap.specs.Line.{MapPlace, Info, Title, Link, Entry, Comment, Listing, End, line_of, lines_of}

-- on the server that gives the menu
abbrev pub here : MapPlace
here = record { host = None; port = None }

abbrev pub at : List ℕ → ℕ → MapPlace
at host port = record { host = Some host; port = Some port }

pub record LineExamples : Type 0 where
  -- lines to read
  pub info : line_of (codes "Welcome to my site") ≡ Ok (Info (codes "Welcome to my site"))
  pub empty : line_of [] ≡ Ok (Info [])
  pub empty_with_cr : line_of (codes "\r") ≡ Ok (Info [])
  pub typed_info : line_of (codes "iAbout us\tfake\t(NULL)\t0") ≡ Ok (Info (codes "About us"))
  pub long_info : line_of (replicate 70 97) ≡ Err (faults.Title TooLong)
  pub cr_within : line_of (codes "a\rb\r") ≡ Err (faults.Title BadName)
  -- items
  pub text : line_of (codes "0About us\t/about.txt") ≡ Ok (Entry links.Text (codes "About us") (codes "/about.txt") here)
  pub with_cr : line_of (codes "0About us\t/about.txt\r") ≡ Ok (Entry links.Text (codes "About us") (codes "/about.txt") here)
  pub no_selector : line_of (codes "1phlog\t") ≡ Ok (Entry links.Menu (codes "phlog") (codes "phlog") here)
  pub no_field : line_of (codes "1phlog\t\t\t") ≡ Ok (Entry links.Menu (codes "phlog") (codes "phlog") here)
  pub remote : line_of (codes "1Floodgap Systems\t/\tgopher.floodgap.com\t70") ≡ Ok (Entry links.Menu (codes "Floodgap Systems") (codes "/") (at (codes "gopher.floodgap.com") 70))
  pub no_port : line_of (codes "7Veronica\t/v2/vs\tgopher.floodgap.com") ≡ Ok (Entry links.Search (codes "Veronica") (codes "/v2/vs") (record { host = Some (codes "gopher.floodgap.com"); port = None }))
  pub no_host : line_of (codes "1Other\t/\t\t7070") ≡ Ok (Entry links.Menu (codes "Other") (codes "/") (record { host = None; port = Some 7070 }))
  pub no_title : line_of (codes "0\t/a") ≡ Ok (Entry links.Text [] (codes "/a") here)
  -- links out of gopherspace
  pub link : line_of (codes "hHome page\tURL:http://www.floodgap.com/") ≡ Ok (Link (codes "Home page") (codes "http://www.floodgap.com/"))
  pub placed_link : line_of (codes "hHome page\tURL:http://www.floodgap.com/\tgopher.floodgap.com\t70") ≡ Ok (Link (codes "Home page") (codes "http://www.floodgap.com/"))
  pub page : line_of (codes "hPage\t/page.html") ≡ Ok (Entry links.Html (codes "Page") (codes "/page.html") here)
  pub script : line_of (codes "hRun\tURL:javascript:x") ≡ Err (faults.Link BadName)
  -- lines without a TAB that say something else
  pub comment : line_of (codes "#0About us\t/about.txt") ≡ Ok Comment
  pub title : line_of (codes "!My site") ≡ Ok (Title (codes "My site"))
  pub listing : line_of (codes "*\r") ≡ Ok Listing
  pub end : line_of (codes ".") ≡ Ok End
  -- refused
  pub hidden : line_of (codes "-secret.txt") ≡ Err faults.Order
  pub rule : line_of (codes "=====") ≡ Err faults.Order
  pub stars : line_of (codes "*** News ***") ≡ Err faults.Order
  pub dots : line_of (codes "...") ≡ Err faults.Order
  pub sound : line_of (codes "sSong\t/song.mp3") ≡ Err faults.Kind
  pub no_type : line_of (codes "\t/a") ≡ Err faults.Kind
  pub five_fields : line_of (codes "0A\t/a\ta.b\t70\t+") ≡ Err faults.Fields
  pub tab_in_title : line_of (codes "!My\tsite") ≡ Err (faults.Title BadName)
  pub long_title : line_of (48 ∷ (replicate 70 97 ++ codes "\t/a")) ≡ Err (faults.Title TooLong)
  pub long_selector : line_of (codes "0A\t" ++ replicate 256 97) ≡ Err (faults.Selector TooLong)
  pub bad_host : line_of (codes "0A\t/a\ta b\t70") ≡ Err (faults.Host BadName)
  pub port_zero : line_of (codes "0A\t/a\ta.b\t0") ≡ Err faults.Port
  pub greatest_port : line_of (codes "0A\t/a\ta.b\t65535") ≡ Ok (Entry links.Text (codes "A") (codes "/a") (at (codes "a.b") 65535))
  pub great_port : line_of (codes "0A\t/a\ta.b\t65536") ≡ Err faults.Port
  pub port_with_sign : line_of (codes "0A\t/a\ta.b\t+70") ≡ Err faults.Port
  -- files
  pub nothing : lines_of [] ≡ []
  pub one_empty : lines_of (codes "\n") ≡ Ok (Info []) ∷ []
  pub no_last_lf : lines_of (codes "A\r\n\r\nB") ≡ Ok (Info (codes "A")) ∷ Ok (Info []) ∷ Ok (Info (codes "B")) ∷ []
  pub behind_the_end : lines_of (codes "A\n.\nB\n") ≡ Ok (Info (codes "A")) ∷ Ok End ∷ []
  pub behind_the_listing : lines_of (codes "*\nB\n") ≡ Ok Listing ∷ []
  pub refused_between : lines_of (codes "~\nB\n") ≡ Err faults.Order ∷ Ok (Info (codes "B")) ∷ []
