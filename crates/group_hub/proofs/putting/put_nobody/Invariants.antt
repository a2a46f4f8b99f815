use Rattle.std.specs.Prelude.{List, ◌++◌, IsTrue}
use Rattle.host_types.specs.CrashStates.{AddsNone}
use Rattle.group_hub.specs.Flushing.{next_pins, StandsBeside}
use Rattle.group_hub.specs.HeldPins.{HoldsAll, HoldsBeside, MayGiveBack}
use Rattle.group_hub.specs.Sessions.{pins_of}
use Rattle.group_hub.specs.declared.session.Session.{Session}
use Rattle.group_hub.proofs.putting.put_nobody.Given as goal

-- All sessions stand beside the pins that are left.
abbrev pub invariant-loop-next : goal.invariant-loop-next
invariant-loop-next g l =
    let s = g.S.SiteKeeper in
    record {
      held : HoldsBeside (s.site_state l.site) (next_pins s.pinned l.next.items);
      stands : (sessions : List (Session g.row.S-Pin.Denot)) → HoldsAll (s.site_state l.fn.site) (next_pins s.pinned l.fn.next.items ++ pins_of s.pinned sessions) → StandsBeside s.pinned (s.site_state l.fn.site) (s.site_state l.site) (next_pins s.pinned l.next.items) sessions;
      keeper : MayGiveBack (s.site_state l.fn.site) (s.site_state l.site);
      at_crash : IsTrue (s.site_state l.fn.site).honest → AddsNone (s.crash_states l.fn.site) (s.crash_states l.site);
    }

abbrev pub decreases-loop-next : goal.decreases-loop-next
decreases-loop-next g l = goal.left-loop-next g l
