use Rattle.std.proofs.Common.{[]}
use Rattle.group_hub.specs.Calls.{HubRun}
use Rattle.turns.specs.Runs.{HasRun}
use Rattle.daily_server.specs.Rounds.{HasHadRounds}
use Rattle.daily_server.proofs.serving.serve_in_hub.Given as goal

-- what was done so far is a run, in so many rounds
abbrev pub invariant-loop-round : goal.invariant-loop-round
invariant-loop-round g l =
    let s = g.S.SiteKeeper in
    HasRun (HubRun s.site_state s.lacks s.crash_states s.represents) l.fn.hub l.hub (g.C.Clock.given l.fn.clock) (g.C.Clock.given l.clock) (λ es os. HasHadRounds g.L.Write.contents g.O.Office.lets_wait g.O.Office.works l.terms l._round (l.fn.service, (l.fn.log, []), l.fn.watch.read.readings, l.fn.office) es os (l.service, (l.log, l.written.calls), l.watch.read.readings, l.office))
