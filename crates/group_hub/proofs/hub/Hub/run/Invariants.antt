use Rattle.std.proofs.Common.{◌≡◌, ◌≤◌, map, take, drop, length, vec_len, vec_capacity}
use Rattle.group_hub.specs.Rooms.{room_of}
use Rattle.group_hub.specs.Calls.{HubCalls}
use Rattle.group_hub.proofs.hub.Hub.run.Given as goal

-- the calls so far, and room for what is left
abbrev pub invariant-loop-at : goal.invariant-loop-at
invariant-loop-at g l = record {
  calls : HubCalls g.S.SiteKeeper.site_state g.S.SiteKeeper.lacks g.S.SiteKeeper.crash_states g.S.SiteKeeper.represents l.fn.self (take l.at l.events) l.outcomes.items l.self;
  acknowledged : length l.outcomes.items ≡ l.at;
  place : length l.events ≤ vec_capacity l.outcomes;
  rooms : map (λ b. vec_len b) (drop l.at l.rooms.items) ≡ map room_of (drop l.at l.events);
}
