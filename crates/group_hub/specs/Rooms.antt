-- How much an event may draw.
use Rattle.std.specs.Prelude.{ℕ}
use Rattle.group_world.specs.declared.event.Event.{Event}
use Rattle.group_world.specs.declared.event.Event.TheVariants.{Join, Bytes, End, Draw, Leave, Admin, Flush}

abbrev pub room_of : Event → ℕ
room_of Join = 0
room_of (Bytes id piece now) = 0
room_of (End id now) = 0
room_of (Draw id room) = room
room_of (Leave id) = 0
room_of (Admin change now) = 0
room_of Flush = 0
