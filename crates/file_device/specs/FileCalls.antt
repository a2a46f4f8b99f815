-- The calls that were made of a file, and the disk that they make.
use Rattle.std.specs.Prelude.{◌≡◌, ◌⊎◌, ◌≤◌, ◌+◌, ◌*◌, ℕ, zero, suc, Bool, true, false, if◌then◌else◌, Result, Ok, Err, List, [], ◌∷◌, ◌++◌, length}
use Rattle.sector_device.specs.Disk.{Disk, IsImage, written, listed, synced}
use Rattle.sector_device.specs.CallsMade.{CallsMade, with_call}
use Rattle.sector_device.specs.Device.{State}
use Rattle.sector_device.specs.Steps.{chunk}
use Rattle.sector_device.specs.declared.call_counts.CallKind.TheVariants as kinds
use Rattle.file_device.specs.declared.file_call.FileCall.{FileCall}
use Rattle.file_device.specs.declared.file_call.FileCall.TheVariants.{Open, OpenToRead, Create, Lock, SetLength, Sync, DropCache, ReadAhead, Length, Read, Write, FailedWrite, FailedSync}

-- how a call is noted, by its answer
abbrev pub noted : {T E : Type 0} → Result T E → FileCall → FileCall → FileCall
noted (Ok _) done failed = done
noted (Err _) done failed = failed

-- a write or a sync that failed
abbrev pub is_failure : FileCall → Bool
is_failure Open = false
is_failure OpenToRead = false
is_failure Create = false
is_failure Lock = false
is_failure (SetLength bytes) = false
is_failure Sync = false
is_failure DropCache = false
is_failure ReadAhead = false
is_failure (Length bytes) = false
is_failure (Read n bytes) = false
is_failure (Write n bytes) = false
is_failure (FailedWrite n bytes) = true
is_failure FailedSync = true

-- No write and no sync has failed. The newest call comes first.
abbrev pub is_sound : List FileCall → Bool
is_sound [] = true
is_sound (call ∷ earlier) = if is_failure call then false else is_sound earlier

-- one sector more, as the file has it
abbrev pub grown : List ℕ → Disk → Disk
grown bytes d = record { base = d.base ++ bytes ∷ []; writes = d.writes; view = d.view ++ bytes ∷ [] }

-- The disk after one more call. A write that failed may have been done, and reads don't show it. Once a write or a sync has failed, a sync makes sure of
-- nothing: a system may have dropped what was written, and answer that all is well.
abbrev pub after : Bool → FileCall → Disk → Disk
after sound Open d = d
after sound OpenToRead d = d
after sound Create d = d
after sound Lock d = d
after sound (SetLength bytes) d = d
after sound Sync d = if sound then synced d else d
after sound DropCache d = d
after sound ReadAhead d = d
after sound (Length bytes) d = d
after sound (Read n bytes) d = grown bytes d
after sound (Write n bytes) d = written n bytes d
after sound (FailedWrite n bytes) d = listed n bytes d
after sound FailedSync d = d

-- A read of each of these sectors, from this one on, and before them the earlier calls.
abbrev pub read_calls : ℕ → List (List ℕ) → List FileCall → List FileCall
read_calls n [] earlier = earlier
read_calls n (bytes ∷ sectors) earlier = read_calls (suc n) sectors (Read n bytes ∷ earlier)

-- Such a call for each of so many sectors from this one on, with their parts of these bytes, and before them the earlier calls.
unfoldable pub page_calls : (ℕ → List ℕ → FileCall) → ℕ → List ℕ → ℕ → List FileCall → List FileCall
page_calls call first bytes zero earlier = earlier
page_calls call first bytes (suc k) earlier = call (first + k) (chunk bytes k) ∷ page_calls call first bytes k earlier

-- how the one call that writes a page is noted, by its answer
abbrev pub noted_page : {T E : Type 0} → Result T E → ℕ → List ℕ → List FileCall → List FileCall
noted_page (Ok _) n bytes earlier = page_calls Write (8 * n) bytes 8 earlier
noted_page (Err _) n bytes earlier = page_calls FailedWrite (8 * n) bytes 8 earlier

-- a disk without sectors
abbrev pub no_sectors : Disk
no_sectors = record { base = []; writes = []; view = [] }

-- The disk that these calls make, of which the newest comes first.
abbrev pub disk_of : List FileCall → Disk
disk_of [] = no_sectors
disk_of (call ∷ earlier) = after (is_sound earlier) call (disk_of earlier)

-- A crash after some number of calls, at least t, leaves an image of the disk as it was then.
abbrev pub PossibleSince : List FileCall → ℕ → List (List ℕ) → Type 0
PossibleSince [] t image = (t ≤ 0) × IsImage (disk_of []) image
PossibleSince (call ∷ earlier) t image = PossibleSince earlier t image ⊎ ((t ≤ suc (length earlier)) × IsImage (disk_of (call ∷ earlier)) image)

-- A device over a file: the name by which it was opened, the calls that were made of it, the newest first, how many writes and syncs failed, and how many calls were made of the device itself.
pub record FileHistory : Type 0 where
  pub path : List ℕ
  pub calls : List FileCall
  pub failed_writes : ℕ
  pub made : CallsMade

-- after one read more of the device, which changed nothing else
abbrev pub asked : FileHistory → FileHistory
asked h = record { path = h.path; calls = h.calls; failed_writes = h.failed_writes; made = with_call kinds.Read h.made }

-- What is trusted of the system: a later opening finds what a crash since a moment of a device before may have left.
abbrev pub FindsWhatACrashLeft : FileHistory → ℕ → FileHistory → Type 0
FindsWhatACrashLeft before t later = PossibleSince before.calls t (disk_of later.calls).view

-- Reads are answered from memory, so none fails, and what they give needs no premise on the file.
abbrev pub file_state : FileHistory → State
file_state h = record { disk = disk_of h.calls; size = length (disk_of h.calls).base; honest = true; failed_reads = 0; failed_writes = h.failed_writes; made = h.made }

-- The copy in memory is what reads give, and it is known whether a write or a sync has failed.
pub record IsCopy (calls : List FileCall) (copy : List (List ℕ)) (sound : Bool) : Type 0 where
  pub shown : copy ≡ (disk_of calls).view
  pub known : sound ≡ is_sound calls
