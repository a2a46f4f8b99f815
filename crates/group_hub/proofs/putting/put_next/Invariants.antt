use Rattle.std.specs.Prelude.{IsTrue}
use Rattle.host_types.specs.CrashStates.{AddsNone}
use Rattle.group_hub.specs.HeldPins.{MayGiveBack}
use Rattle.group_hub.proofs.SessionsPut.{IsPutSo}
use Rattle.group_hub.proofs.putting.put_next.Given as goal

-- So many sessions are put, and those behind them are as before.
abbrev pub invariant-loop-session : goal.invariant-loop-session
invariant-loop-session g l =
    let s = g.S.SiteKeeper in
    record {
      put : IsPutSo s.pinned l.putting (s.site_state l.fn.site) (s.site_state l.site) l.fn.sessions.items l.fn.next.items l.next.items l.session-items l.session-index;
      keeper : MayGiveBack (s.site_state l.fn.site) (s.site_state l.site);
      at_crash : IsTrue (s.site_state l.fn.site).honest → AddsNone (s.crash_states l.fn.site) (s.crash_states l.site);
    }
