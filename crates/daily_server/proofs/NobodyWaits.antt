-- Nobody's post waits behind a round.
use Rattle.std.proofs.Common.{◌≡◌, ℕ, Bool, true, false, List, refl, subst, sym, ap, ◌∙◌}
use Rattle.group_world.specs.declared.event.Event.{Event}
use Rattle.group_world.specs.declared.event.Outcome.{Outcome}
use Rattle.group_world.specs.declared.event.Outcome.TheVariants as outcomes
use Rattle.group_world.specs.declared.fault.HubFault.{HubFault}
use Rattle.group_world.specs.declared.fault.HubFault.TheVariants as faults
use Rattle.turns.specs.Turns.{Trace, Both, StepsInOrder, IsFlushed}
use Rattle.turns.proofs.AllClosed.{all_after, anything}
use Rattle.daily_turns.specs.ReadyConnections.{ConnectionState, is_waiting, refused_state, learned_state, LearnsAt, DismissedAt, state_of}
use Rattle.daily_turns.specs.declared.ready_connection.ConnectionStage.{ConnectionStage}
use Rattle.daily_turns.specs.declared.ready_connection.ConnectionStage.TheVariants as stages
use Rattle.daily_server.specs.DailyClients.{NoClientWaits, Learned, GoesIf, WasDismissed, is_late}
use Rattle.daily_server.specs.declared.daily_client.DailyClient.{DailyClient}

refused_out : (fault : HubFault) → is_waiting (refused_state fault).stage ≡ false
refused_out (faults.Full need free) = refl
refused_out faults.Crowded = refl
refused_out faults.NotReady = refl
refused_out fault = refl

learned_out : (id : ℕ) (o : Outcome) → is_waiting (learned_state id o).stage ≡ false
learned_out id (outcomes.Drawn bytes) = refl
learned_out id outcomes.Finished = refl
learned_out id (outcomes.Fault fault) = refused_out fault
learned_out id o = refl

-- who has learned what came of its post waits no more
learns_out : (stage : ConnectionStage) (before : ConnectionState) (t : Trace) (after : ConnectionState) → before.stage ≡ stage → LearnsAt stage before t after → is_waiting after.stage ≡ false
learns_out (stages.Waiting id) before t after is l = ap (λ s. is_waiting s.stage) l.does.after_is ∙ learned_out id l.does.outcome
learns_out (stages.Listening id) before t after is l = ap (λ s. is_waiting s.stage) l.1 ∙ ap is_waiting is
learns_out (stages.Replying id) before t after is l = ap (λ s. is_waiting s.stage) l.1 ∙ ap is_waiting is
learns_out (stages.Leaving ending) before t after is l = ap (λ s. is_waiting s.stage) l.1 ∙ ap is_waiting is
learns_out (stages.Closed ending) before t after is l = ap (λ s. is_waiting s.stage) l.1 ∙ ap is_waiting is

dismissed_out : (stage : ConnectionStage) (before : ConnectionState) (t : Trace) (after : ConnectionState) → before.stage ≡ stage → DismissedAt stage before t after → is_waiting after.stage ≡ false
dismissed_out (stages.Waiting id) before t after is d = ap (λ s. is_waiting s.stage) d.2
dismissed_out (stages.Listening id) before t after is d = ap (λ s. is_waiting s.stage) d.2
dismissed_out (stages.Replying id) before t after is d = ap (λ s. is_waiting s.stage) d.2
dismissed_out (stages.Leaving ending) before t after is d = ap (λ s. is_waiting s.stage) d.1
dismissed_out (stages.Closed ending) before t after is d = ap (λ s. is_waiting s.stage) d.1 ∙ ap is_waiting is

abbrev IsOut : DailyClient → Type 0
IsOut client = is_waiting client.connection.stage ≡ false

goes_out : (over : Bool) (old new : DailyClient) (es : List Event) (os : List Outcome) → IsOut old → GoesIf over old es os new → IsOut new
goes_out true old new es os out d = dismissed_out old.connection.stage (state_of old.connection) _ (state_of new.connection) refl d.0.does
goes_out false old new es os out d = subst IsOut (sym d.2) out

pub nobody_waits : (now : ℕ) (old mid new : List DailyClient) (es fs : List Event) (os ps : List Outcome) → Both IsFlushed (StepsInOrder Learned) old es os mid → StepsInOrder (WasDismissed now) mid fs ps new → NoClientWaits new
nobody_waits now old mid new es fs os ps made dismissed =
    all_after (WasDismissed now) IsOut IsOut (λ x y gs qs out d. goes_out (is_late now x) x y gs qs out d) mid new fs ps
    (all_after Learned (λ x. Unit {0}) IsOut (λ x y gs qs p d. learns_out x.connection.stage (state_of x.connection) _ (state_of y.connection) refl d.learns.0.does) made.mid mid made.later_events made.later_outcomes (anything made.mid) made.later) dismissed
