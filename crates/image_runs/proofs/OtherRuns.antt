-- What holds of a script by one relation of runs holds by any other that follows from it.
use Rattle.std.proofs.Common.{ℕ, List, Option, Some, None}
use Rattle.std.specs.Prelude.{IfSome, IfErr, Result, Ok, Err, OnOk}
use Rattle.group_world.specs.declared.event.Event.{Event}
use Rattle.group_world.specs.declared.event.Outcome.{Outcome}
use Rattle.host_script.specs.Lines.{Ran, RanBy, IsReplayed, IsHalted, Halts}
use Rattle.host_script.specs.declared.fault.ReplayFault.{ReplayFault}
use Rattle.image_runs.specs.ImageRuns.{Replays}

some_too : {A : Type 0} {P Q : A → Type 0} (o : Option A) → ((a : A) → P a → Q a) → IfSome o P → IfSome o Q
some_too None f h = h
some_too (Some a) f h = f a h

ok_too : {P Q : Type 0} (result : Result (Unit {0}) ReplayFault) → (P → Q) → OnOk result P → OnOk result Q
ok_too (Ok a) f h = f h
ok_too (Err e) f h = h

err_too : {P Q : ReplayFault → Type 0} (result : Result (Unit {0}) ReplayFault) → ((fault : ReplayFault) → P fault → Q fault) → IfErr result P → IfErr result Q
err_too (Ok a) f h = h
err_too (Err e) f h = f e h

pub replays_too : {H K : Type 0} (ran : Ran H) (other : Ran K) (old new : H) (from to : K) → ((events : List Event) (outcomes : List Outcome) → ran old events outcomes new → other from events outcomes to) →
    (script unread given took : Option (List ℕ)) (result : Result (Unit {0}) ReplayFault) → Replays ran old new script unread given took result → Replays other from to script unread given took result
replays_too ran other old new from to f script unread given took result r = record {
  whole = ok_too result (some_too {P = IsReplayed ran old new given took} {Q = IsReplayed other from to given took} script (λ text is. record { lines = is.lines; rest = is.rest; printed = is.printed; after = is.after; events = is.events; outcomes = is.outcomes; cut = is.cut; run = is.run; calls = f is.events is.outcomes is.calls; written = is.written })) r.whole;
  halted = err_too {P = Halts ran old new given took unread script} {Q = Halts other from to given took unread script} result (λ fault. some_too {P = λ text. RanBy ran old new (IsHalted fault given took unread text)} {Q = λ text. RanBy other from to (IsHalted fault given took unread text)} script (λ text by. (by.0, by.1, by.2, f by.0 by.1 by.3))) r.halted;
  led = (r.led.0, r.led.1, f r.led.0 r.led.1 r.led.2);
}
