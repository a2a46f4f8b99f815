use Rattle.std.proofs.Common.{◌≡◌, map, []}
use Rattle.group_hub.specs.Calls.{HubRun}
use Rattle.turns.specs.Runs.{HasRun}
use Rattle.turns.proofs.Passing.{IsDoneTo}
use Rattle.daily_server.specs.Rounds.{who}
use Rattle.daily_server.specs.DailyClients.{WasDismissed}
use Rattle.daily_server.proofs.serving.dismiss_late.Given as goal

-- so many of them are done, and they are who they were
abbrev pub invariant-loop-client : goal.invariant-loop-client
invariant-loop-client g l =
    let s = g.S.SiteKeeper in
    record {
      run : HasRun (HubRun s.site_state s.lacks s.crash_states s.represents) l.fn.hub l.hub [] [] (λ es os. IsDoneTo (WasDismissed l.now) l.client-index l.fn.clients es os l.clients);
      same_who : map who l.clients ≡ map who l.fn.clients;
    }
