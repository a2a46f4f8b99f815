-- What a call of a wire that never waits is.
use Rattle.std.specs.Prelude.{ℕ, List, length, take, Result, Ok, Err, Option, Some, None}
use Rattle.turns.specs.WireCalls.{WireCall, Read, ReadFailed, ReadWaited, Wrote, WriteFailed, WriteWaited}

-- a read into a buffer
abbrev pub read_try : {E : Type 0} → Result (Option ℕ) E → List ℕ → WireCall
read_try (Ok (Some n)) buffer = Read (length buffer) (take n buffer)
read_try (Ok None) buffer = ReadWaited (length buffer)
read_try (Err _) buffer = ReadFailed (length buffer)

-- a write of some bytes
abbrev pub write_try : {E : Type 0} → Result (Option ℕ) E → List ℕ → WireCall
write_try (Ok (Some n)) bytes = Wrote bytes n
write_try (Ok None) bytes = WriteWaited bytes
write_try (Err _) bytes = WriteFailed bytes
