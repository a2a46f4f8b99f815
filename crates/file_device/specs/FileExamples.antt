-- Worked examples of the disk that calls of a file make: a file of two sectors of one byte, which is opened, written to and synced.
use Rattle.std.specs.Prelude.{◌≡◌, ℕ, true, false, List, [], ◌∷◌}
use Rattle.sector_device.specs.Disk.{Disk}
use Rattle.file_device.specs.FileCalls.{is_sound, disk_of, no_sectors}
use Rattle.file_device.specs.declared.file_call.FileCall.{FileCall}
use Rattle.file_device.specs.declared.file_call.FileCall.TheVariants.{Open, Lock, Sync, DropCache, ReadAhead, Length, Read, Write, FailedWrite, FailedSync}

-- the file was opened and has sectors of 5 and of 6; the newest call comes first
abbrev pub opened : List FileCall
opened = ReadAhead ∷ DropCache ∷ Read 1 (6 ∷ []) ∷ Read 0 (5 ∷ []) ∷ Length 1024 ∷ DropCache ∷ Sync ∷ Lock ∷ Open ∷ []

-- these sectors, each of one byte
abbrev pub two : ℕ → ℕ → List (List ℕ)
two a b = (a ∷ []) ∷ (b ∷ []) ∷ []

-- these sectors, of which nothing is listed
abbrev pub synced_disk : ℕ → ℕ → Disk
synced_disk a b = record { base = two a b; writes = []; view = two a b }

-- sector 0 was written as 7
abbrev pub once : List FileCall
once = Write 0 (7 ∷ []) ∷ opened

-- and a write of 8 to sector 1 failed
abbrev pub torn : List FileCall
torn = FailedWrite 1 (8 ∷ []) ∷ once

pub record FileExamples : Type 0 where
  pub before_reads : disk_of (Length 1024 ∷ DropCache ∷ Sync ∷ Lock ∷ Open ∷ []) ≡ no_sectors
  pub opened : disk_of opened ≡ synced_disk 5 6
  pub shown : disk_of once ≡ record { base = two 5 6; writes = (0, 7 ∷ []) ∷ []; view = two 7 6 }
  pub sure : disk_of (Sync ∷ once) ≡ synced_disk 7 6
  pub sound : is_sound (Sync ∷ once) ≡ true
  pub failed_is_listed : disk_of torn ≡ record { base = two 5 6; writes = (0, 7 ∷ []) ∷ (1, 8 ∷ []) ∷ []; view = two 7 6 }
  pub not_sound : is_sound torn ≡ false
  pub sure_of_nothing : disk_of (Sync ∷ torn) ≡ disk_of torn
  pub never_again : disk_of (Sync ∷ FailedSync ∷ once) ≡ disk_of once
