use Rattle.std.proofs.Common.{◌≡◌, Bool, true, false, List, [], ◌++◌, sym, subst, append-nil}
use Rattle.group_world.specs.declared.event.Event.{Event}
use Rattle.group_world.specs.declared.event.Outcome.{Outcome}
use Rattle.turns.specs.Turns.{trace}
use Rattle.old_clients.specs.Clients.{fresh_client}
use Rattle.text_writer.specs.Errors.{error_reply}
use Rattle.text_writer.specs.declared.error.ErrorText.TheVariants.{TryAgainLater}
use Rattle.daily_turns.specs.ReadyConnections.{is_waiting, state_of}
use Rattle.daily_server.specs.Due.{WasGiven, IsGiven, all_due}
use Rattle.daily_server.specs.DailyClients.{IsNew, HadTurn, WasTurnedDown, Learned, GoesIf, is_late}
use Rattle.daily_server.specs.declared.terms.Terms.{Terms}
use Rattle.daily_server.specs.declared.daily_client.DailyClient.{DailyClient}
use Rattle.daily_server.proofs.Dues.{joined_due, turn_due, refusal_due, learning_due, dismissal_due}
use Rattle.daily_server.proofs.laws.gives_what_is_due.Goals as goal

comes : (terms : Terms) (now : _) (outcome : Outcome) (client : DailyClient) → IsNew terms now outcome client → WasGiven [] client
comes terms now outcome client new = subst (λ adapter. IsGiven adapter [] client.connection.wire.made.calls (state_of client.connection)) (sym new.adapter)
    (subst (λ calls. IsGiven (fresh_client terms.old_clients) [] calls (state_of client.connection)) (sym new.unread) (subst (λ s. IsGiven (fresh_client terms.old_clients) [] [] s) (sym new.session) (joined_due terms.old_clients outcome)))

turns : (due : List _) (now : _) (old new : DailyClient) (es : List Event) (os : List Outcome) → WasGiven due old → HadTurn now old es os new → WasGiven (due ++ all_due es os) new
turns due now old new es os given had = subst (λ calls. IsGiven new.connection.adapter (due ++ all_due es os) calls (state_of new.connection)) (sym had.turn.calls_are) (turn_due old.connection.adapter new.connection.adapter (state_of old.connection) (state_of new.connection) (trace had.turn.made es os) had.turn.does due old.connection.wire.made.calls given)

goes : (over : Bool) (due : List _) (old new : DailyClient) (es : List Event) (os : List Outcome) → WasGiven due old → GoesIf over old es os new → WasGiven (due ++ all_due es os) new
goes true due old new es os given had = subst (λ adapter. IsGiven adapter (due ++ all_due es os) new.connection.wire.made.calls (state_of new.connection)) (sym had.1)
    (subst (λ calls. IsGiven old.connection.adapter (due ++ all_due es os) calls (state_of new.connection)) (sym had.0.calls_are) (dismissal_due old.connection.adapter (state_of old.connection) (state_of new.connection) (trace had.0.made es os) had.0.does due old.connection.wire.made.calls given))
goes false due old new es os given had = subst (λ v. WasGiven (due ++ all_due es os) v) (sym had.2) (subst (λ (l : List Outcome). WasGiven (due ++ all_due es l) old) (sym had.1) (subst (λ (l : List Event). WasGiven (due ++ all_due l []) old) (sym had.0) (subst (λ l. WasGiven l old) (sym (append-nil due)) given)))

refuses : (due : List _) (old new : DailyClient) (es : List Event) (os : List Outcome) → WasGiven due old → is_waiting old.connection.stage ≡ true → WasTurnedDown old es os new → WasGiven (due ++ error_reply true TryAgainLater []) new
refuses due old new es os given waits had = subst (λ adapter. IsGiven adapter (due ++ error_reply true TryAgainLater []) new.connection.wire.made.calls (state_of new.connection)) (sym had.turned_down.1)
    (subst (λ calls. IsGiven old.connection.adapter (due ++ error_reply true TryAgainLater []) calls (state_of new.connection)) (sym had.turned_down.0.calls_are) (refusal_due old.connection.adapter (state_of old.connection) (state_of new.connection) (trace had.turned_down.0.made es os) waits had.turned_down.0.does due old.connection.wire.made.calls given))

learns : (due : List _) (old new : DailyClient) (es : List Event) (os : List Outcome) → WasGiven due old → Learned old es os new → WasGiven (due ++ all_due es os) new
learns due old new es os given had = subst (λ adapter. IsGiven adapter (due ++ all_due es os) new.connection.wire.made.calls (state_of new.connection)) (sym had.learns.1)
    (subst (λ calls. IsGiven old.connection.adapter (due ++ all_due es os) calls (state_of new.connection)) (sym had.learns.0.calls_are) (learning_due old.connection.adapter (state_of old.connection) (state_of new.connection) (trace had.learns.0.made es os) had.learns.0.does due old.connection.wire.made.calls given))

pub returns : goal.returns
returns c = record {
  at_first = comes;
  by_turn = turns;
  by_refusal = refuses;
  by_learning = learns;
  by_dismissal = λ due now old new es os given had. goes (is_late now old) due old new es os given had;
  by_wait = λ due client given. record { given = given.given; hears = given.hears };
}
