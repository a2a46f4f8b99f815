-- The command line: what clap reads of each command and of its arguments.
use Rattle.std.specs.Prelude.{◌≡◌, ◌++◌, ℕ, Bool, true, false, List, [], ◌∷◌, Some, codes}
use Rattle.clap.specs.Lexer.{usize_max}
use Rattle.clap.specs.Words.{App, Rule, Shape, Text, app_of, new_rule, rule_of}
use Rattle.clap.specs.Simple.{new_shape}
use Rattle.clap.specs.declared.builder.action.ArgAction.TheVariants.{Set, SetTrue}
use Rattle.clap.specs.declared.builder.arg.Arg.{Arg}
use Rattle.clap.specs.declared.builder.command.Command.{Command}
use Rattle.clap.specs.declared.builder.command.Command.TheViews.{out-Command}
use Rattle.clap.specs.declared.builder.value_parser.ValueParser.TheVariants as parser

-- a file, by its place among the words
abbrev pub path_rule : Text → Rule
path_rule name = record (new_rule name) { action = Some Set }

-- the same where this says whether it has to be there
abbrev pub where_required : Bool → Rule → Rule
where_required is_required rule = record rule { required = is_required }

abbrev pub required_path : Text → Rule
required_path name = record (path_rule name) { required = true }

-- a text behind its name
abbrev pub text_rule : Text → Rule
text_rule name = record (new_rule name) {
  long = Some name;
  value_names = 1;
  required = true;
  action = Some Set;
}

abbrev pub number_rule : Text → ℕ → ℕ → Rule
number_rule name least most =
    record (text_rule name) { parser = Some (parser.Unsigned least most) }

-- the same where it may be left out, and can't stand beside or without another
abbrev pub bound_rule : Rule → Rule
bound_rule rule = record rule { required = false; is_free = false }

-- the same where it can't stand beside a number of rounds
abbrev pub unless_rounds : Rule → Rule
unless_rounds rule = record rule { is_free = false }

-- the same where it may be left out
abbrev pub free_rule : Rule → Rule
free_rule rule = record rule { required = false }

-- a moment up to the end of the year 9999, which may be left out
abbrev pub now_rule : Rule
now_rule = free_rule (number_rule (codes "now") 0 253402300799)

-- the name of the administrators' socket, which may be left out
abbrev pub socket_rule : Rule
socket_rule = free_rule (text_rule (codes "admin"))

-- a word that is there or not
abbrev pub flag_rule : Text → Rule
flag_rule name = record (new_rule name) { long = Some name; action = Some SetTrue }

abbrev pub quiet_rule : Rule
quiet_rule = record (flag_rule (codes "quiet")) { is_free = false }

abbrev pub old_clients_rule : Rule
old_clients_rule = record (flag_rule (codes "old-clients")) { is_free = false }

abbrev pub common_log_rule : Rule
common_log_rule = record (flag_rule (codes "common-log")) { is_free = false }

abbrev pub no_socket_rule : Rule
no_socket_rule = record (flag_rule (codes "no-admin")) { is_free = false }

abbrev pub command : Text → List Rule → Shape
command name rules = record (new_shape name) { rules = rules }

abbrev pub image_rule : Rule
image_rule = required_path (codes "IMAGE")

abbrev pub format_command : Shape
format_command = command (codes "format")
    (image_rule ∷ number_rule (codes "pages") 0 4294967295 ∷ text_rule (codes "host")
    ∷ number_rule (codes "port") 1 65535 ∷ text_rule (codes "admin")
    ∷ text_rule (codes "title") ∷ now_rule ∷ [])

-- a value that may be left out, and what stands for it then
abbrev pub standing : Text → Rule → Rule
standing value rule = record rule { required = false; defaults = value ∷ [] }

abbrev pub init_command : Shape
init_command = command (codes "init")
    (image_rule ∷ standing (codes "4096") (number_rule (codes "pages") 0 4294967295)
    ∷ standing (codes "localhost") (text_rule (codes "host"))
    ∷ standing (codes "70") (number_rule (codes "port") 1 65535)
    ∷ standing [] (text_rule (codes "admin"))
    ∷ standing (codes "Home") (text_rule (codes "title")) ∷ now_rule ∷ [])

abbrev pub get_command : Shape
get_command = command (codes "get")
    (image_rule ∷ required_path (codes "SELECTOR") ∷ free_rule (text_rule (codes "view")) ∷ [])

abbrev pub import_command : Shape
import_command = command (codes "import")
    (required_path (codes "FOLDER") ∷ free_rule (text_rule (codes "under")) ∷ [])

-- one value or more
abbrev pub some_values : Rule → Rule
some_values rule = record rule { range = Some (record { start_inclusive = 1; end_inclusive = usize_max }) }

abbrev pub drop_command : Shape
drop_command = command (codes "drop") (image_rule ∷ some_values (required_path (codes "SELECTOR")) ∷ socket_rule ∷ [])

abbrev pub apply_command : Shape
apply_command = command (codes "apply") (image_rule ∷ required_path (codes "FILE") ∷ now_rule ∷ socket_rule ∷ [])

abbrev pub posts_command : Shape
posts_command = command (codes "posts") (image_rule ∷ required_path (codes "BOARD") ∷ [])

-- a command that takes an image alone
abbrev pub image_command : Text → Shape
image_command name = command name (image_rule ∷ [])

abbrev pub show_command : Shape
show_command = command (codes "show") (image_rule ∷ flag_rule (codes "long") ∷ [])

abbrev pub copy_command : Shape
copy_command = command (codes "copy")
    (image_rule ∷ required_path (codes "NEW") ∷ free_rule (number_rule (codes "pages") 0 4294967295) ∷ [])

abbrev pub replay_command : Shape
replay_command = command (codes "replay") (path_rule (codes "IMAGE") ∷ flag_rule (codes "group") ∷ [])

-- what `serve` takes as far as rounds go
abbrev pub round_rules : List Rule
round_rules = image_rule ∷ bound_rule (number_rule (codes "together") 1 32)
    ∷ bound_rule (number_rule (codes "rounds") 0 4294967295) ∷ []

-- and what bounds its clients
abbrev pub client_rules : List Rule
client_rules = round_rules ++ bound_rule (text_rule (codes "listen")) ∷ quiet_rule
    ∷ bound_rule (number_rule (codes "per-address") 1 32)
    ∷ bound_rule (number_rule (codes "posts-per-minute") 1 1000) ∷ []

abbrev pub serve_with : List Rule → Shape
serve_with rules = command (codes "serve") rules

abbrev pub serve_command : Shape
serve_command = serve_with (client_rules
    ++ old_clients_rule ∷ common_log_rule ∷ bound_rule socket_rule ∷ no_socket_rule ∷ [])

-- the commands that make an image and change it
abbrev pub changing_commands : List Shape
changing_commands = format_command ∷ init_command ∷ apply_command ∷ drop_command ∷ []

-- and those that say what it holds
abbrev pub telling_commands : List Shape
telling_commands = changing_commands ++ get_command ∷ posts_command ∷ show_command
    ∷ image_command (codes "export") ∷ import_command ∷ []

abbrev pub commands : List Shape
commands = telling_commands ++ image_command (codes "check") ∷ image_command (codes "compact")
    ∷ image_command (codes "upgrade") ∷ copy_command ∷ replay_command ∷ serve_command ∷ []

-- the command line without its commands
abbrev pub head : App
head = record {
  top = record (new_shape (codes "gopher_host")) { has_version = true; subcommand_required = true };
  subs = [];
}

-- and with these
abbrev pub host_of : List Shape → App
host_of subs = record { top = record head.top { is_leaf = false }; subs = subs }

-- the whole of it
abbrev pub gopher_host : App
gopher_host = host_of commands

-- the argument is read by this rule, at its own command alone
abbrev pub IsArg : Rule → Arg → Type 0
IsArg rule a = (rule_of a ≡ rule) × (a.global ≡ false)

-- the command is read so
abbrev pub IsApp : App → Command → Type 0
IsApp app c = (app_of c ≡ app) × ((out-Command c).has_globals ≡ false)

abbrev pub IsCommand : Shape → Command → Type 0
IsCommand shape = IsApp (record { top = shape; subs = [] })
