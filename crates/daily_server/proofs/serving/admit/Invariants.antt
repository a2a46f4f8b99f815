use Rattle.std.proofs.Common.{◌≤◌, length, []}
use Rattle.group_hub.specs.Calls.{HubRun}
use Rattle.turns.specs.Runs.{HasRun}
use Rattle.daily_server.proofs.ComingIn.{IsLettingIn}
use Rattle.daily_server.proofs.serving.admit.Given as goal

-- what was done so far is a run, and by it so many came; no more of them were turned away
abbrev pub invariant-loop-client : goal.invariant-loop-client
invariant-loop-client g l =
    let s = g.S.SiteKeeper in
    record {
      run : HasRun (HubRun s.site_state s.lacks s.crash_states s.represents) l.fn.hub l.hub [] [] (λ es os. IsLettingIn l.terms l.now l._client l.fn.service es os l.service l.crowd.items);
      turned_away : length l.crowd.items ≤ l._client;
    }
