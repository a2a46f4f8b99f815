use Rattle.std.proofs.Common.{◌≡◌, []}
use Rattle.std.specs.Prelude.{IsTrue}
use Rattle.host_types.specs.CrashStates.{AddsNone}
use Rattle.group_hub.specs.HeldPins.{HoldsAll, MayGiveBack}
use Rattle.group_hub.specs.Sessions.{pins_of}
use Rattle.group_hub.proofs.pins.end_all.Given as goal

-- The sessions that are left hold all pins that are out, and nothing but pins given back has changed.
abbrev pub invariant-loop-sessions : goal.invariant-loop-sessions
invariant-loop-sessions g l =
    let s = g.S.SiteKeeper in
    HoldsAll (s.site_state l.site) (pins_of s.pinned l.sessions.items)
    × MayGiveBack (s.site_state l.initial.site) (s.site_state l.site)
    × (IsTrue (s.site_state l.initial.site).honest → AddsNone (s.crash_states l.initial.site) (s.crash_states l.site))
    × ((s.crash_states l.site).moment ≡ (s.crash_states l.initial.site).moment)
    × (l.initial.sessions.items ≡ [] → (l.site ≡ l.initial.site) × (l.sessions.items ≡ []))

abbrev pub decreases-loop-sessions : goal.decreases-loop-sessions
decreases-loop-sessions g l = goal.left-loop-sessions g l
