use Rattle.std.proofs.Common.{Bool, true, false, List, [], ◌++◌, sym, subst, append-nil}
use Rattle.group_world.specs.declared.event.Event.{Event}
use Rattle.group_world.specs.declared.event.Outcome.{Outcome}
use Rattle.old_clients.specs.Clients.{fresh_client}
use Rattle.turns.specs.Turns.{trace}
use Rattle.daily_turns.specs.ReadyConnections.{state_of}
use Rattle.daily_server.specs.Told.{WasTold, all_told}
use Rattle.daily_server.specs.DailyClients.{IsNew, HadTurn, WasTurnedDown, Learned, GoesIf, is_late}
use Rattle.daily_server.specs.declared.terms.Terms.{Terms}
use Rattle.daily_server.specs.declared.daily_client.DailyClient.{DailyClient}
use Rattle.daily_server.proofs.Tellings.{Tells, dismissal_tells, fresh_tells, learning_tells, refusal_tells, turn_tells}
use Rattle.daily_server.proofs.laws.tells_what_is_sent.Goals as goal

comes : (terms : Terms) (now : _) (outcome : Outcome) (client : DailyClient) → IsNew terms now outcome client → WasTold terms.old_clients [] client
comes terms now outcome client new = subst (λ calls. Tells terms.old_clients client.connection.adapter [] calls) (sym new.unread) (subst (λ adapter. Tells terms.old_clients adapter [] []) (sym new.adapter) (fresh_tells terms.old_clients))

turns : (old_client : Bool) (told : List _) (now : _) (old new : DailyClient) (es : List Event) (os : List Outcome) → WasTold old_client told old → HadTurn now old es os new → WasTold old_client (told ++ all_told es) new
turns old_client told now old new es os was had = subst (λ calls. Tells old_client new.connection.adapter (told ++ all_told es) calls) (sym had.turn.calls_are)
    (turn_tells old_client old.connection.adapter new.connection.adapter (state_of old.connection) (state_of new.connection) (trace had.turn.made es os) had.turn.does told old.connection.wire.made.calls was)

refuses : (old_client : Bool) (told : List _) (old new : DailyClient) (es : List Event) (os : List Outcome) → WasTold old_client told old → WasTurnedDown old es os new → WasTold old_client (told ++ all_told es) new
refuses old_client told old new es os was had = subst (λ adapter. Tells old_client adapter (told ++ all_told es) new.connection.wire.made.calls) (sym had.turned_down.1)
    (subst (λ calls. Tells old_client old.connection.adapter (told ++ all_told es) calls) (sym had.turned_down.0.calls_are) (refusal_tells old_client old.connection.adapter (state_of old.connection) (state_of new.connection) (trace had.turned_down.0.made es os) had.turned_down.0.does told old.connection.wire.made.calls was))

learns : (old_client : Bool) (told : List _) (old new : DailyClient) (es : List Event) (os : List Outcome) → WasTold old_client told old → Learned old es os new → WasTold old_client (told ++ all_told es) new
learns old_client told old new es os was had = subst (λ adapter. Tells old_client adapter (told ++ all_told es) new.connection.wire.made.calls) (sym had.learns.1)
    (subst (λ calls. Tells old_client old.connection.adapter (told ++ all_told es) calls) (sym had.learns.0.calls_are) (learning_tells old_client old.connection.adapter (state_of old.connection) (state_of new.connection) (trace had.learns.0.made es os) had.learns.0.does told old.connection.wire.made.calls was))

goes : (over : Bool) (old_client : Bool) (told : List _) (old new : DailyClient) (es : List Event) (os : List Outcome) → WasTold old_client told old → GoesIf over old es os new → WasTold old_client (told ++ all_told es) new
goes true old_client told old new es os was had = subst (λ adapter. Tells old_client adapter (told ++ all_told es) new.connection.wire.made.calls) (sym had.1)
    (subst (λ calls. Tells old_client old.connection.adapter (told ++ all_told es) calls) (sym had.0.calls_are) (dismissal_tells old_client old.connection.adapter (state_of old.connection) (state_of new.connection) (trace had.0.made es os) had.0.does told old.connection.wire.made.calls was))
goes false old_client told old new es os was had = subst (λ v. WasTold old_client (told ++ all_told es) v) (sym had.2) (subst (λ (l : List Event). WasTold old_client (told ++ all_told l) old) (sym had.0) (subst (λ l. WasTold old_client l old) (sym (append-nil told)) was))

pub returns : goal.returns
returns c = record {
  at_first = comes;
  by_turn = turns;
  by_refusal = refuses;
  by_learning = learns;
  by_dismissal = λ old_client told now old new es os was had. goes (is_late now old) old_client told old new es os was had;
  by_wait = λ old_client told client was. was;
}
