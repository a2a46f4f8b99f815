-- How serving ends for a wait that failed.
use Rattle.std.proofs.Common.{◌≡◌, ℕ, Bool, true, Option, Result, Ok, Err, List, [], sym, subst, ◌∙◌}
use Rattle.std.specs.Result.{IsErrAnd}
use Rattle.group_world.specs.declared.event.Event.{Event}
use Rattle.group_world.specs.declared.event.Outcome.{Outcome}
use Rattle.turns.specs.WireCalls.{WireCall}
use Rattle.daily_server.specs.Offices.{WorksOf}
use Rattle.daily_server.specs.declared.pace.Pace.{Pace}
use Rattle.daily_server.specs.Rounds.{HasHadRounds, HasServed}
use Rattle.daily_server.specs.DailyClients.{HasNotWaited}
use Rattle.daily_server.specs.declared.service.Service.{Service}
use Rattle.daily_server.specs.declared.terms.Terms.{Terms}
use Rattle.daily_server.specs.declared.stopwatch.Reading.{Reading}
use Rattle.daily_server.specs.declared.service.DailyFault.{DailyFault}
use Rattle.daily_server.specs.declared.service.DailyFault.TheVariants.{Net}

pub wait_failed : {L O X : Type 0} (contents : L → Option (List ℕ)) (lets_wait : O → Pace) (works : WorksOf O) (terms : Terms) (result : Result X DailyFault) (fault : DailyFault) (usable : Bool) (rounds : ℕ) (old last new : Service) (log_before log : L) (written : List WireCall) (readings_before readings : List Reading) (first office : O) (es : List Event) (os : List Outcome) →
    IsErrAnd result (λ e. e ≡ fault) → fault ≡ Net → usable ≡ true → HasHadRounds contents lets_wait works terms rounds (old, (log_before, []), readings_before, first) es os (last, (log, written), readings, office) → HasNotWaited (lets_wait office) last new → HasServed contents lets_wait works terms result usable (old, log_before, readings_before, first) es os (new, log, readings, office)
wait_failed contents lets_wait works terms (Ok x) fault usable rounds old last new log_before log written readings_before readings first office es os is net was had failed = absurd is
wait_failed {X = X} contents lets_wait works terms (Err e) fault usable rounds old last new log_before log written readings_before readings first office es os is net was had failed =
    subst (λ f. HasServed {X = X} contents lets_wait works terms (Err f) usable (old, log_before, readings_before, first) es os (new, log, readings, office)) (sym (is ∙ net)) (record { rounds = rounds; last = last; written = written; had = had; ends = (was, failed) })
