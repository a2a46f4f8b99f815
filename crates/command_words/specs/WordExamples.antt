-- Worked examples: what the command line finds in words.
use Rattle.std.specs.Prelude.{◌≡◌, Bool, true, false, List, [], ◌∷◌, Option, Some, None, codes, option_and_then, option_map}
use Rattle.clap.specs.Words.{Text, one_of, takes}
use Rattle.command_words.specs.CommandLine.{gopher_host}
use Rattle.command_words.specs.Reading.{command_in}

-- behind the program's name
abbrev pub named : List Text → Option Text
named words = option_map (λ found. found.0) (command_in (codes "gopher_host" ∷ words))

abbrev pub value_of : Text → List Text → Option Text
value_of id words =
    option_and_then (λ found. one_of id found.1) (command_in (codes "gopher_host" ∷ words))

abbrev pub is_taken : List Text → Bool
is_taken words = takes gopher_host (codes "gopher_host" ∷ words)

abbrev pub show_words : List Text
show_words = codes "show" ∷ codes "site.img" ∷ []

abbrev pub format_words : List Text
format_words = codes "format" ∷ codes "site.img" ∷ codes "--pages" ∷ codes "4096"
    ∷ codes "--host=localhost" ∷ codes "--port" ∷ codes "7070" ∷ codes "--admin" ∷ codes "Ada"
    ∷ codes "--title" ∷ codes "Top" ∷ codes "--now" ∷ codes "743878921" ∷ []

abbrev pub port_zero : List Text
port_zero = codes "format" ∷ codes "site.img" ∷ codes "--pages" ∷ codes "4096"
    ∷ codes "--host=localhost" ∷ codes "--port" ∷ codes "0" ∷ codes "--admin" ∷ codes "Ada"
    ∷ codes "--title" ∷ codes "Top" ∷ codes "--now" ∷ codes "743878921" ∷ []

abbrev pub rounds_words : List Text
rounds_words = codes "serve" ∷ codes "site.img" ∷ codes "--together" ∷ codes "2"
    ∷ codes "--rounds" ∷ codes "100" ∷ []

abbrev pub old_client_words : List Text
old_client_words = codes "serve" ∷ codes "--old-clients" ∷ codes "site.img" ∷ []

abbrev pub quiet_words : List Text
quiet_words = codes "serve" ∷ codes "--quiet" ∷ codes "site.img" ∷ []

abbrev pub places_words : Text → List Text
places_words n = codes "serve" ∷ codes "site.img" ∷ codes "--per-address" ∷ n ∷ []

abbrev pub posts_words : Text → List Text
posts_words n = codes "serve" ∷ codes "site.img" ∷ codes "--posts-per-minute" ∷ n ∷ []

pub record WordExamples : Type 0 where
  pub shows : named show_words ≡ Some (codes "show")
  pub its_image : value_of (codes "IMAGE") show_words ≡ Some (codes "site.img")
  pub it_is_taken : is_taken show_words ≡ true
  pub shortly : value_of (codes "long") show_words ≡ Some (codes "false")
  pub at_length : value_of (codes "long") (codes "show" ∷ codes "--long" ∷ codes "site.img" ∷ []) ≡ Some (codes "true")
  pub exports : named (codes "export" ∷ codes "site.img" ∷ []) ≡ Some (codes "export")
  pub imports : named (codes "import" ∷ codes "site" ∷ []) ≡ Some (codes "import")
  pub its_folder : value_of (codes "FOLDER") (codes "import" ∷ codes "site" ∷ []) ≡ Some (codes "site")
  pub under_the_top : value_of (codes "under") (codes "import" ∷ codes "site" ∷ []) ≡ None
  pub under_another : value_of (codes "under") (codes "import" ∷ codes "site" ∷ codes "--under" ∷ codes "/phlog" ∷ []) ≡ Some (codes "/phlog")
  pub no_folder : is_taken (codes "import" ∷ []) ≡ false
  pub upgrades : named (codes "upgrade" ∷ codes "site.img" ∷ []) ≡ Some (codes "upgrade")
  pub copies : named (codes "copy" ∷ codes "site.img" ∷ codes "new.img" ∷ []) ≡ Some (codes "copy")
  pub as_many_pages : value_of (codes "pages") (codes "copy" ∷ codes "site.img" ∷ codes "new.img" ∷ []) ≡ None
  pub more_pages : value_of (codes "pages") (codes "copy" ∷ codes "site.img" ∷ codes "new.img" ∷ codes "--pages" ∷ codes "64" ∷ []) ≡ Some (codes "64")
  pub its_copy : value_of (codes "NEW") (codes "copy" ∷ codes "site.img" ∷ codes "new.img" ∷ []) ≡ Some (codes "new.img")
  pub no_copy : is_taken (codes "copy" ∷ codes "site.img" ∷ []) ≡ false
  pub no_image : is_taken (codes "show" ∷ []) ≡ false
  pub no_command : is_taken [] ≡ false
  pub replays : is_taken (codes "replay" ∷ []) ≡ true
  pub over_no_image : value_of (codes "IMAGE") (codes "replay" ∷ []) ≡ None
  pub one_by_one : value_of (codes "group") (codes "replay" ∷ []) ≡ Some (codes "false")
  pub in_groups : value_of (codes "group") (codes "replay" ∷ codes "--group" ∷ codes "a.img" ∷ []) ≡ Some (codes "true")
  pub formats : named format_words ≡ Some (codes "format")
  pub host : value_of (codes "host") format_words ≡ Some (codes "localhost")
  pub port : value_of (codes "port") format_words ≡ Some (codes "7070")
  pub title : value_of (codes "title") format_words ≡ Some (codes "Top")
  pub no_moment : value_of (codes "now") (codes "apply" ∷ codes "site.img" ∷ codes "changes.toml" ∷ []) ≡ None
  pub inits : named (codes "init" ∷ codes "site.img" ∷ []) ≡ Some (codes "init")
  pub init_is_taken : is_taken (codes "init" ∷ codes "site.img" ∷ []) ≡ true
  pub its_pages : value_of (codes "pages") (codes "init" ∷ codes "site.img" ∷ []) ≡ Some (codes "4096")
  pub its_host : value_of (codes "host") (codes "init" ∷ codes "site.img" ∷ []) ≡ Some (codes "localhost")
  pub its_port : value_of (codes "port") (codes "init" ∷ codes "site.img" ∷ []) ≡ Some (codes "70")
  pub given_port : value_of (codes "port") (codes "init" ∷ codes "site.img" ∷ codes "--port" ∷ codes "7070" ∷ []) ≡ Some (codes "7070")
  pub gets : value_of (codes "SELECTOR") (codes "get" ∷ codes "site.img" ∷ codes "/a" ∷ []) ≡ Some (codes "/a")
  pub first_view : value_of (codes "view") (codes "get" ∷ codes "site.img" ∷ codes "/a" ∷ []) ≡ None
  pub its_view : value_of (codes "view") (codes "get" ∷ codes "site.img" ∷ codes "/a" ∷ codes "--view" ∷ codes "V" ∷ []) ≡ Some (codes "V")
  pub lists_posts : value_of (codes "BOARD") (codes "posts" ∷ codes "site.img" ∷ codes "/book" ∷ []) ≡ Some (codes "/book")
  pub of_no_board : is_taken (codes "posts" ∷ codes "site.img" ∷ []) ≡ false
  pub drops : is_taken (codes "drop" ∷ codes "site.img" ∷ codes "/a" ∷ codes "/b" ∷ []) ≡ true
  pub nothing_to_drop : is_taken (codes "drop" ∷ codes "site.img" ∷ []) ≡ false
  pub all_is_there : is_taken format_words ≡ true
  pub no_port_is_0 : is_taken port_zero ≡ false
  pub rounds : value_of (codes "rounds") rounds_words ≡ Some (codes "100")
  pub together : value_of (codes "together") rounds_words ≡ Some (codes "2")
  pub loud_rounds : value_of (codes "quiet") rounds_words ≡ Some (codes "false")
  pub no_old_clients : value_of (codes "old-clients") quiet_words ≡ Some (codes "false")
  pub old_clients : value_of (codes "old-clients") old_client_words ≡ Some (codes "true")
  pub is_quiet : value_of (codes "quiet") quiet_words ≡ Some (codes "true")
  pub two_places : value_of (codes "per-address") (places_words (codes "2")) ≡ Some (codes "2")
  pub as_many_as_else : value_of (codes "per-address") quiet_words ≡ None
  pub three_posts : value_of (codes "posts-per-minute") (posts_words (codes "3")) ≡ Some (codes "3")
  pub no_post_at_all : is_taken (posts_words (codes "0")) ≡ false
  pub all_posts : value_of (codes "posts-per-minute") quiet_words ≡ None
  pub its_socket : value_of (codes "admin") (codes "apply" ∷ codes "site.img" ∷ codes "changes.toml" ∷ codes "--admin" ∷ codes "site.admin" ∷ []) ≡ Some (codes "site.admin")
  pub nobody_comes : value_of (codes "no-admin") (codes "serve" ∷ codes "site.img" ∷ codes "--no-admin" ∷ []) ≡ Some (codes "true")
  pub somebody_comes : value_of (codes "no-admin") quiet_words ≡ Some (codes "false")
  pub anywhere : value_of (codes "listen") quiet_words ≡ None
