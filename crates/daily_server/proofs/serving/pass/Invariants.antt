use Rattle.std.proofs.Common.{◌≡◌, map}
use Rattle.group_hub.specs.Calls.{HubRun}
use Rattle.turns.specs.Runs.{HasRun}
use Rattle.daily_server.specs.Rounds.{who}
use Rattle.daily_server.specs.DailyClients.{HadLimitedTurn}
use Rattle.daily_server.proofs.PassesBeside.{IsDoneBeside}
use Rattle.daily_server.proofs.serving.pass.Given as goal

-- so many of them are done, and they are who they were
abbrev pub invariant-loop-client : goal.invariant-loop-client
invariant-loop-client g l =
    let s = g.S.SiteKeeper in
    record {
      run : HasRun (HubRun s.site_state s.lacks s.crash_states s.represents) l.fn.hub l.hub (g.C.Clock.given l.fn.clock) (g.C.Clock.given l.clock) (λ es os. IsDoneBeside (HadLimitedTurn l.most l.now) l.client-index (l.fn.clients, l.fn.posts.items) es os (l.clients, l.posts.items));
      same_who : map who l.clients ≡ map who l.fn.clients;
    }
