-- What the calls of a key-value store count.
use Rattle.std.specs.Prelude.{◌≡◌, ℕ, Bool, true, Result, Ok, Err}
use Rattle.common_types.specs.Counts.{counted}
use Rattle.sector_device.specs.Device.{State, NothingCounted, OneCounted}
use Rattle.page_store.specs.declared.fault.KeeperFault.{KeeperFault}
use Rattle.page_store.specs.declared.fault.KeeperFault.TheVariants as faults

-- the count of failed reads after a fault: a read that failed is counted, and nothing else
abbrev pub reads_after : KeeperFault → ℕ → ℕ
reads_after faults.Device count = counted count
reads_after other count = count

-- the count of failed writes and syncs after a fault of a keeper that was usable or not: the first that failed is counted, and nothing else
abbrev pub writes_after : Bool → KeeperFault → ℕ → ℕ
writes_after true faults.Failed count = counted count
writes_after usable other count = count

-- how a call goes on with the count of failed reads
abbrev pub CountsStoreReads : {T : Type 0} → Result T KeeperFault → ℕ → ℕ → Type 0
CountsStoreReads (Ok _) before now = now ≡ before
CountsStoreReads (Err fault) before now = now ≡ reads_after fault before

-- how a call of a keeper that was usable or not goes on with the count of failed writes and syncs
abbrev pub CountsStoreWrites : {T : Type 0} → Bool → Result T KeeperFault → ℕ → ℕ → Type 0
CountsStoreWrites usable (Ok _) before now = now ≡ before
CountsStoreWrites usable (Err fault) before now = now ≡ writes_after usable fault before

-- What a refused opening counts: its fault `Device` is a read or a sync that failed.
abbrev pub CountsRefusal : KeeperFault → State → State → Type 0
CountsRefusal faults.Device old new = OneCounted old new
CountsRefusal other old new = NothingCounted old new
