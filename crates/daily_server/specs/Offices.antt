-- Who else works on a hub, behind the turns of its clients.
use Rattle.std.specs.Prelude.{◌≡◌, ℕ, Bool, ◌||◌, Option, List, []}
use Rattle.mio.specs.declared.event.event.Event.{Event as SocketEvent}
use Rattle.group_world.specs.declared.event.Event.{Event}
use Rattle.group_world.specs.declared.event.Outcome.{Outcome}
use Rattle.turns.specs.Turns.{StepOf}
use Rattle.daily_server.specs.Listeners.{office_listener_token, office_wire_token}
use Rattle.daily_server.specs.DailyClients.{is_called, was_in_vain}

-- What an office does in a turn, by whether it is called and at a second of the watch: from how it was, by these events with these outcomes, to how it is.
abbrev pub WorksOf : Type 0 → Type 1
WorksOf O = Bool → ℕ → StepOf O

-- It does nothing.
abbrev pub DoesNothing : {O : Type 0} → WorksOf O
DoesNothing called now old es os new = (es ≡ []) × (os ≡ []) × (new ≡ old)

-- an event is one of its sockets
abbrev pub names_office : List SocketEvent → Bool
names_office events = is_called events office_listener_token || is_called events office_wire_token

-- An office is called where a wait of this patience ended in vain, or with an event of one of its sockets.
abbrev pub calls_office : Option ℕ → List SocketEvent → Bool
calls_office patience events = was_in_vain patience events || names_office events
