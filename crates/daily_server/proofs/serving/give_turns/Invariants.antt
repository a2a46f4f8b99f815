use Rattle.std.proofs.Common.{◌≡◌, map}
use Rattle.group_hub.specs.Calls.{HubRun}
use Rattle.turns.specs.Runs.{HasRun}
use Rattle.turns.specs.Turns.{Times}
use Rattle.daily_server.specs.Rounds.{who}
use Rattle.daily_server.specs.DailyClients.{HadPass}
use Rattle.daily_server.proofs.serving.give_turns.Given as goal

-- so many passes were made, and they are who they were
abbrev pub invariant-loop-pass : goal.invariant-loop-pass
invariant-loop-pass g l =
    let s = g.S.SiteKeeper in
    record {
      run : HasRun (HubRun s.site_state s.lacks s.crash_states s.represents) l.fn.hub l.hub (g.C.Clock.given l.fn.clock) (g.C.Clock.given l.clock) (λ es os. Times l._pass (HadPass l.most l.now) (l.fn.clients, l.fn.posts.items) es os (l.clients, l.posts.items));
      same_who : map who l.clients ≡ map who l.fn.clients;
    }
