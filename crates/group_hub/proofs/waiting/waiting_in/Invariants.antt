use Rattle.std.proofs.Common.{◌≡◌, ◌≤◌, take}
use Rattle.host_types.specs.Pins.{Pinned}
use Rattle.host_types.specs.SiteState.{SiteState}
use Rattle.group_world.specs.World.{count_waiting}
use Rattle.group_hub.specs.Sessions.{sessions_of}
use Rattle.group_hub.proofs.waiting.waiting_in.Given as goal

abbrev pub invariant-loop-session : goal.invariant-loop-session
invariant-loop-session g l = record {
  so_far : (pinned : g.row.P.Denot → Pinned) (h : SiteState) → l.count ≡ count_waiting (sessions_of pinned h (take l.session-index l.sessions));
  few : l.count ≤ l.session-index;
}
