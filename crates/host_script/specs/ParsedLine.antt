-- What a command of a script asks for.
use Rattle.std.specs.Prelude.{ℕ, List, Result, Ok, Err}
use Rattle.host_types.specs.Names.{name_of, is_field}
use Rattle.host_types.specs.Site.{text_item}
use Rattle.host_types.specs.declared.change.Change.TheVariants.{Put}
use Rattle.common_types.specs.declared.refused.Refused.{Refused as Refusal}
use Rattle.group_world.specs.declared.event.Event.TheVariants as events
use Rattle.host_script.specs.declared.script.Command.{Command}
use Rattle.host_script.specs.declared.script.Command.TheVariants as commands
use Rattle.host_script.specs.declared.asking.ParsedLine.{ParsedLine}
use Rattle.host_script.specs.declared.asking.ParsedLine.TheVariants.{Moment, Event, Refused}

abbrev pub put_parsed : Result (List ℕ) Refusal → Result (List ℕ) Refusal → List ℕ → ℕ → ParsedLine
put_parsed (Err refused) title body now = Refused refused
put_parsed (Ok selector) (Err refused) body now = Refused refused
put_parsed (Ok selector) (Ok title) body now = Event (events.Admin (Put selector (text_item title now body)) now)

-- a text document put by the administrator; the selector is examined before the title
abbrev pub text_parsed : List ℕ → List ℕ → List ℕ → ℕ → ParsedLine
text_parsed selector title body now = put_parsed (name_of is_field 255 selector) (name_of is_field 69 title) body now

abbrev pub parsed_of : Command → ℕ → ParsedLine
parsed_of (commands.Now stamp) now = Moment stamp
parsed_of (commands.Text selector title body) now = text_parsed selector title body now
parsed_of commands.Join now = Event events.Join
parsed_of (commands.Bytes id text) now = Event (events.Bytes id text now)
parsed_of (commands.End id) now = Event (events.End id now)
parsed_of (commands.Draw id room) now = Event (events.Draw id room)
parsed_of (commands.Leave id) now = Event (events.Leave id)
parsed_of commands.Flush now = Event events.Flush
