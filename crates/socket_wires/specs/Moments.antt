-- The moment that a clock's reading is.
use Rattle.std.specs.Prelude.{ℕ, ◌/◌, min}
use Rattle.std.specs.Time.{system_time_nanos}
use Rattle.socket_wires.specs.declared.system_clock.ClockReading.{ClockReading}
use Rattle.socket_wires.specs.declared.system_clock.ClockReading.TheVariants.{At, Unread}

-- In whole seconds since the start of 1970. One past the end of the year 9999 is that end, and one that could not be read is 0.
abbrev pub moment_at : ClockReading → ℕ
moment_at (At time) = min (system_time_nanos time / 1_000_000_000) 253402300799
moment_at Unread = 0
