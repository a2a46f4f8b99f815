use Rattle.group_hub.specs.Calls.{HubRun}
use Rattle.turns.specs.Runs.{HasRun}
use Rattle.turns.specs.Turns.{Pass, Times}
use Rattle.turns.proofs.turns.pass_on.Given as goal

-- so many passes were made
abbrev pub invariant-loop-pass : goal.invariant-loop-pass
invariant-loop-pass g l =
    let s = g.S.SiteKeeper in
    HasRun (HubRun s.site_state s.lacks s.crash_states s.represents) l.fn.hub l.hub (g.C.Clock.given l.fn.clock) (g.C.Clock.given l.clock) (λ es os. Times l._pass (Pass g.W.Wire.calls) l.fn.connections es os l.connections)
