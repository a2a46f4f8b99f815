-- What the calls of a device have in common.
use Rattle.std.specs.Prelude.{◌≡◌, ◌⊎◌, ℕ, Bool, Result, Ok, Err}
use Rattle.common_types.specs.Counts.{counted}
use Rattle.common_types.specs.CrashStates.{AddsOnly}
use Rattle.sector_device.specs.Disk.{Disk}
use Rattle.sector_device.specs.CallsMade.{CallsMade}

-- What a device is, but for what a crash may leave of it. `honest`: it keeps its written meaning. The counts are of failed reads, and of failed writes and syncs. `made`: how many calls were made, those that failed too, without a limit.
pub record State : Type 0 where
  pub disk : Disk
  pub size : ℕ
  pub honest : Bool
  pub failed_reads : ℕ
  pub failed_writes : ℕ
  pub made : CallsMade

-- no call failed
pub record NothingCounted (old new : State) : Type 0 where
  pub reads : new.failed_reads ≡ old.failed_reads
  pub writes : new.failed_writes ≡ old.failed_writes

-- one call failed: a read, or else a write or a sync
abbrev pub OneCounted : State → State → Type 0
OneCounted old new =
    ((new.failed_reads ≡ counted old.failed_reads) × (new.failed_writes ≡ old.failed_writes))
    ⊎ ((new.failed_reads ≡ old.failed_reads) × (new.failed_writes ≡ counted old.failed_writes))

-- What reads, writes and syncs one after another count, where the first that fails is the last.
abbrev pub CountsFirst : {T E : Type 0} → Result T E → State → State → Type 0
CountsFirst (Ok _) old new = NothingCounted old new
CountsFirst (Err _) old new = OneCounted old new

-- Time goes on: a crash since t might have left what it might have left before, or what it may leave now.
abbrev pub Elapses : {L : Type 0} → ℕ → ℕ → (ℕ → L → Type 0) → (ℕ → L → Type 0) → Type 0
Elapses before now past since = AddsOnly (record { moment = before; possible_since = past }) (record { moment = now; possible_since = since }) (since now)
