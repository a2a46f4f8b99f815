-- What a clock that only goes forward tells when it is read.
use Rattle.std.specs.Prelude.{◌≡◌, ℕ, ◌-◌, ◌/◌, Option, Some, option_map}
use Rattle.std.specs.Time.{instant_nanos}
use Rattle.std.specs.declared.time.Instant.{Instant}
use Rattle.daily_server.specs.declared.stopwatch.Reading.{Reading}
use Rattle.daily_server.specs.declared.stopwatch.Reading.TheVariants.{Since, Unread}

-- in whole seconds since the start; 0 where it could not be read
abbrev pub seconds_of : Reading → ℕ
seconds_of (Since start now) = (instant_nanos now - instant_nanos start) / 1_000_000_000
seconds_of Unread = 0

-- when the clock of a reading was started, in nanoseconds of that clock; of one that could not be read this is what is told
abbrev pub started_at : Option ℕ → Reading → Option ℕ
started_at told (Since start now) = Some (instant_nanos start)
started_at told Unread = told

-- a reading of a clock that was started then
abbrev pub IsFrom : Option Instant → Reading → Type 0
IsFrom start reading = started_at (option_map instant_nanos start) reading ≡ option_map instant_nanos start
