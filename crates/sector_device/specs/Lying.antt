-- A device that doesn't keep its written meaning.
use Rattle.std.specs.Prelude.{IsTrue, false}
use Rattle.sector_device.specs.CallsMade.{CallsMade}
use Rattle.sector_device.specs.Device.{State}

-- of which these calls were made
abbrev pub lying : State → CallsMade → State
lying s made = record { disk = s.disk; size = s.size; honest = false; failed_reads = s.failed_reads; failed_writes = s.failed_writes; made = made }

-- no device is both
pub lies : {A : Type 0} → IsTrue false → A
lies h = cc
