-- What a client sent and took, by the calls that were made of its connection.
use Rattle.std.specs.Prelude.{ℕ, ◌^◌, ◌-◌, ◌==◌, Bool, min, List, [], flat_map, sum_by, take}
use Rattle.std.specs.List.{list_any}
use Rattle.turns.specs.WireCalls.{WireCall, Read, ReadFailed, ReadWaited, Wrote, WriteFailed, WriteWaited, Closed}
use Rattle.daily_server.specs.Heads.{selector_in}

-- the bytes that a call read
abbrev pub read_by : WireCall → List ℕ
read_by (Read room bytes) = bytes
read_by (ReadFailed room) = []
read_by (ReadWaited room) = []
read_by (Wrote bytes taken) = []
read_by (WriteFailed bytes) = []
read_by (WriteWaited bytes) = []
read_by Closed = []

-- how many bytes a call wrote
abbrev pub written_by : WireCall → ℕ
written_by (Read room bytes) = 0
written_by (ReadFailed room) = 0
written_by (ReadWaited room) = 0
written_by (Wrote bytes taken) = taken
written_by (WriteFailed bytes) = 0
written_by (WriteWaited bytes) = 0
written_by Closed = 0

-- the first 256 bytes that were read
abbrev pub head_of : List WireCall → List ℕ
head_of calls = take 256 (flat_map read_by calls)

-- what was asked for, as far as the log looks at it
abbrev pub asked_by : List WireCall → List ℕ
asked_by calls = selector_in (head_of calls)

-- whether a line has come whole: an LF was read
abbrev pub has_line : List WireCall → Bool
has_line calls = list_any (λ b. b == 10) (flat_map read_by calls)

-- how many bytes were written, as far as a u64 counts
abbrev pub taken_by : List WireCall → ℕ
taken_by calls = min (sum_by written_by calls) (2 ^ 64 - 1)
