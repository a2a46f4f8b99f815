-- The moment of a command, and what the system's clock told.
use Rattle.std.specs.Prelude.{◌≡◌, ℕ, List, [], ◌∷◌, ◌++◌, map, Option, Some, None}
use Rattle.socket_wires.specs.Moments.{moment_at}
use Rattle.socket_wires.specs.declared.system_clock.ClockReading.{ClockReading}
use Rattle.command_words.specs.declared.words.Task.{Task}
use Rattle.command_words.specs.declared.words.Task.TheVariants as task

-- the moments of a clock's readings
abbrev pub moments_of : List ClockReading → List ℕ
moments_of readings = map moment_at readings

-- the clock is read once, and tells this moment
abbrev pub TellsMoment : List ClockReading → List ClockReading → ℕ → Type 0
TellsMoment before after now = moments_of after ≡ moments_of before ++ now ∷ []

-- A moment that is given is that of the command, and the clock is not read. Where none is given it is the clock's, which is read once.
abbrev pub IsMoment : Option ℕ → List ClockReading → List ClockReading → ℕ → Type 0
IsMoment (Some given) before after now = (now ≡ given) × (after ≡ before)
IsMoment None before after now = TellsMoment before after now

-- this holds where the task makes no change at a moment
abbrev pub IfNoMoment : Task → Type 0 → Type 0
IfNoMoment (task.Format image site pages now) Holds = Unit {0}
IfNoMoment (task.Apply image file now socket) Holds = Unit {0}
IfNoMoment (task.Init image site pages now) Holds = Unit {0}
IfNoMoment (task.Remove image selectors socket) Holds = Unit {0}
IfNoMoment other Holds = Holds
