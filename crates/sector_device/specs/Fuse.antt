-- A device whose own failures count beside those of the device inside.
use Rattle.std.specs.Prelude.{ℕ, ◌+◌, ◌-◌, ◌^◌, min}
use Rattle.sector_device.specs.CallsMade.{CallsMade}
use Rattle.sector_device.specs.Device.{State}

-- a count stays at the greatest u64
abbrev pub at_most_greatest : ℕ → ℕ
at_most_greatest count = min count (2 ^ 64 - 1)

-- a device that has failed so often besides, of which these calls were made
abbrev pub with_failures : State → ℕ → ℕ → CallsMade → State
with_failures s reads writes made = record {
  disk = s.disk;
  size = s.size;
  honest = s.honest;
  failed_reads = at_most_greatest (s.failed_reads + reads);
  failed_writes = at_most_greatest (s.failed_writes + writes);
  made = made;
}
