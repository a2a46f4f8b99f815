-- A disk in memory, by the calls that were made of it.
use Rattle.std.specs.Prelude.{◌≤◌, ℕ, true, List, [], ◌∷◌, ◌++◌, length, take, replicate}
use Rattle.sector_device.specs.Sizes.{sector_size}
use Rattle.common_types.specs.Counts.{counted}
use Rattle.sector_device.specs.CallsMade.{CallsMade, none_made, with_call}
use Rattle.sector_device.specs.Device.{State}
use Rattle.sector_device.specs.Disk.{Disk, IsImage, written, synced}
use Rattle.sector_device.specs.declared.call.Call.{Call}
use Rattle.sector_device.specs.declared.call.Call.TheVariants.{Write, Sync}
use Rattle.sector_device.specs.declared.call_counts.CallKind.{CallKind}
use Rattle.sector_device.specs.declared.call_counts.CallKind.TheVariants as kinds

-- A disk in memory: its sectors at first, the writes and syncs that it took, how many it could not take, and how many calls were made of it, reads too: all together, at most the greatest u64, and of each kind.
pub record History : Type 0 where
  pub first : List (List ℕ)
  pub writes_and_syncs : List Call
  pub failed_writes : ℕ
  pub calls : ℕ
  pub made : CallsMade

-- a disk in memory of which nothing was asked yet
abbrev pub unused : List (List ℕ) → History
unused sectors = record { first = sectors; writes_and_syncs = []; failed_writes = 0; calls = 0; made = none_made }

-- what a call asks
abbrev pub kind_of : Call → CallKind
kind_of (Write n bytes) = kinds.Write
kind_of Sync = kinds.Sync

-- after one read more, which changed nothing else
abbrev pub asked : History → History
asked h = record { first = h.first; writes_and_syncs = h.writes_and_syncs; failed_writes = h.failed_writes; calls = counted h.calls; made = with_call kinds.Read h.made }

-- after a write or a sync that it took
abbrev pub took : Call → History → History
took call h = record { first = h.first; writes_and_syncs = h.writes_and_syncs ++ call ∷ []; failed_writes = h.failed_writes; calls = counted h.calls; made = with_call (kind_of call) h.made }

-- after a write or a sync that it could not take
abbrev pub refused : Call → History → History
refused call h = record { first = h.first; writes_and_syncs = h.writes_and_syncs; failed_writes = counted h.failed_writes; calls = counted h.calls; made = with_call (kind_of call) h.made }

-- so many sectors of zeros
unfoldable pub zeros : ℕ → List (List ℕ)
zeros sectors = replicate sectors (replicate sector_size 0)

-- a disk of which nothing was asked yet
abbrev pub fresh : List (List ℕ) → Disk
fresh sectors = record { base = sectors; writes = []; view = sectors }

abbrev pub after : Call → Disk → Disk
after (Write n bytes) d = written n bytes d
after Sync d = synced d

-- the disk after these calls
abbrev pub replay : Disk → List Call → Disk
replay d [] = d
replay d (call ∷ calls) = replay (after call d) calls

abbrev pub disk_of : History → Disk
disk_of h = replay (fresh h.first) h.writes_and_syncs

-- what callers see of a disk in memory
abbrev pub mem_state : History → State
mem_state h = record { disk = disk_of h; size = length h.first; honest = true; failed_reads = 0; failed_writes = h.failed_writes; made = h.made }

-- the writes among these calls
abbrev pub writes_of : List Call → List (ℕ × List ℕ)
writes_of [] = []
writes_of (Write n bytes ∷ calls) = (n, bytes) ∷ writes_of calls
writes_of (Sync ∷ calls) = writes_of calls

-- a crash after some number of calls, at least t, leaves an image of the disk as it was then
abbrev pub MayLeaveSince : List (List ℕ) → List Call → ℕ → List (List ℕ) → Type 0
MayLeaveSince first calls t image = (k : ℕ) × (t ≤ k) × (k ≤ length calls) × IsImage (replay (fresh first) (take k calls)) image
