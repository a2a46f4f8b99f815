-- Events by one relation of runs are events by any other that follows from it, and what holds of them may be said otherwise.
use Rattle.std.proofs.Common.{ℕ, List}
use Rattle.group_world.specs.declared.event.Event.{Event}
use Rattle.group_world.specs.declared.event.Outcome.{Outcome}
use Rattle.turns.specs.Runs.{HasRun}

pub run_too : {H K : Type 0} (ran : H → List Event → List Outcome → H → Type 0) (other : K → List Event → List Outcome → K → Type 0) (old new : H) (from to : K) →
    ((events : List Event) (outcomes : List Outcome) → ran old events outcomes new → other from events outcomes to) →
    (before now : List ℕ) (P Q : List Event → List Outcome → Type 0) → ((events : List Event) (outcomes : List Outcome) → P events outcomes → Q events outcomes) → HasRun ran old new before now P → HasRun other from to before now Q
run_too ran other old new from to f before now P Q h r = record { events = r.events; outcomes = r.outcomes; led = f r.events r.outcomes r.led; moments_are = r.moments_are; holds = h r.events r.outcomes r.holds }
