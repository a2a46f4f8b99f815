-- Bytes in place, or elsewhere.
use Rattle.std.specs.Prelude.{ℕ, List, ◌==◌, if◌then◌else◌, take}

-- so many in place, or, where there are none, those elsewhere
abbrev pub bytes_in : ℕ → List ℕ → List ℕ → List ℕ
bytes_in length place elsewhere = if length == 0 then elsewhere else take length place
