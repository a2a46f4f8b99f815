use Rattle.std.proofs.Common.{[]}
use Rattle.group_hub.specs.Calls.{HubRun}
use Rattle.turns.specs.Runs.{HasRun}
use Rattle.turns.specs.Turns.{For, EndsConnection}
use Rattle.turns.proofs.Passing.{IsDoneTo}
use Rattle.turns.proofs.turns.end_all.Given as goal

-- so many of them are done
abbrev pub invariant-loop-connection : goal.invariant-loop-connection
invariant-loop-connection g l =
    let s = g.S.SiteKeeper in
    HasRun (HubRun s.site_state s.lacks s.crash_states s.represents) l.fn.hub l.hub [] [] (λ es os. IsDoneTo (For g.W.Wire.calls EndsConnection) l.connection-index l.fn.connections es os l.connections)
