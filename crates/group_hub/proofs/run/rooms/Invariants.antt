use Rattle.std.proofs.Common.{◌≡◌, map, take, vec_len}
use Rattle.group_hub.specs.Rooms.{room_of}
use Rattle.group_hub.proofs.run.rooms.Given as goal

abbrev pub invariant-loop-event : goal.invariant-loop-event
invariant-loop-event l = map (λ b. vec_len b) l.made.items ≡ map room_of (take l.event-index l.events)
