use Rattle.group_hub.specs.Calls.{HubRun}
use Rattle.turns.specs.Runs.{HasRun}
use Rattle.turns.specs.Turns.{For, Turn}
use Rattle.turns.proofs.Passing.{IsDoneTo}
use Rattle.turns.proofs.turns.give_turns.Given as goal

-- so many of them are done
abbrev pub invariant-loop-connection : goal.invariant-loop-connection
invariant-loop-connection g l =
    let s = g.S.SiteKeeper in
    HasRun (HubRun s.site_state s.lacks s.crash_states s.represents) l.fn.hub l.hub (g.C.Clock.given l.fn.clock) (g.C.Clock.given l.clock) (λ es os. IsDoneTo (For g.W.Wire.calls Turn) l.connection-index l.fn.connections es os l.connections)
