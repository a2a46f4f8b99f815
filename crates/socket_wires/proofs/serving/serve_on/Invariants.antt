use Rattle.group_hub.specs.Calls.{HubRun}
use Rattle.group_hub.specs.Hub.{keeper_of}
use Rattle.turns.specs.Runs.{HasRun}
use Rattle.socket_wires.proofs.RoundsMade.{HasMadeRounds}
use Rattle.socket_wires.proofs.serving.serve_on.Given as goal

-- so many rounds were made
abbrev pub invariant-loop-round : goal.invariant-loop-round
invariant-loop-round g l =
    let s = g.S.SiteKeeper in
    HasRun (HubRun s.site_state s.lacks s.crash_states s.represents) l.fn.hub l.hub (g.C.Clock.given l.fn.clock) (g.C.Clock.given l.clock) (λ es os.
    HasMadeRounds (HubRun s.site_state s.lacks s.crash_states s.represents) (λ h. (s.site_state (keeper_of h)).usable) l.together l._round l.fn.gate.taken.calls l.gate.taken.calls l.fn.hub es os l.hub l.served)
