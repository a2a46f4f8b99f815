use Rattle.std.proofs.Common.{◌≡◌, ◌≤◌, length, take}
use Rattle.std.specs.Prelude.{IsTrue, vec_capacity}
use Rattle.group_hub.specs.Flushing.{next_pins, AreNextSound, AreForWaiting, ArePrepared, StandsBeside}
use Rattle.group_hub.specs.Preparing.{Prepares}
use Rattle.group_hub.specs.Sessions.{sessions_of}
use Rattle.group_hub.proofs.PreparesThen.{done}
use Rattle.group_hub.proofs.group.prepare.Given as goal

-- the sessions before have what they are to have
abbrev pub invariant-loop-session : goal.invariant-loop-session
invariant-loop-session g l =
    let s = g.S.SiteKeeper in
    let before = s.site_state l.fn.site in
    let now = s.site_state l.site in
    let all_sessions = sessions_of s.pinned before (take l.session-index l.sessions) in
    record {
      as_many : length l.next.items ≡ l.session-index;
      room : length l.sessions ≤ vec_capacity l.next;
      prepared : IsTrue before.honest → ArePrepared s.pinned now before.site all_sessions l.next.items l.changes.items;
      sound : IsTrue before.honest → AreNextSound s.pinned now l.next.items;
      waiting : AreForWaiting (take l.session-index l.sessions) l.next.items;
      stands : StandsBeside s.pinned before now (next_pins s.pinned l.next.items) l.sessions;
      prepares : Prepares s.site_state s.lacks s.crash_states l.fn.site l.site done;
    }
