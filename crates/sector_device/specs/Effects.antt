-- What a call does to a device.
use Rattle.std.specs.Prelude.{◌≡◌, ◌≤◌, ◌+◌, ℕ, Result, Ok, Err, IfErr, IsTrue}
use Rattle.common_types.specs.Counts.{Counts}
use Rattle.sector_device.specs.Device.{State}
use Rattle.sector_device.specs.declared.device.DeviceFault.{DeviceFault}
use Rattle.sector_device.specs.declared.device.DeviceFault.TheVariants.{Device as Failing}

-- No call changes the size of a device, or whether it is honest.
pub record IsSameDevice (old new : State) : Type 0 where
  pub size : new.size ≡ old.size
  pub honest : new.honest ≡ old.honest

-- No write and no sync was made.
pub record MadeReads (old new : State) : Type 0 where
  pub reads : old.made.reads ≤ new.made.reads
  pub writes : new.made.writes ≡ old.made.writes
  pub syncs : new.made.syncs ≡ old.made.syncs

-- Nothing changes but the counts of reads; of the disk this holds where the device is honest.
pub record OnlyReads (old new : State) : Type 0 where
  pub same : IsSameDevice old new
  pub disk : IsTrue old.honest → new.disk ≡ old.disk
  pub writes : new.failed_writes ≡ old.failed_writes
  pub made : MadeReads old new

-- A read only reads; where one fails, it is counted, and the fault is `Device`.
pub record ReadOutcome {T : Type 0} (result : Result T DeviceFault) (old new : State) : Type 0 where
  pub only : OnlyReads old new
  pub reads : Counts result old.failed_reads new.failed_reads
  pub fault : IfErr result (λ e. e ≡ Failing)

-- A write or a sync counts no read; where one fails, it is counted, and the fault is `Device`.
pub record WriteOutcome {T : Type 0} (result : Result T DeviceFault) (old new : State) : Type 0 where
  pub same : IsSameDevice old new
  pub reads : new.failed_reads ≡ old.failed_reads
  pub writes : Counts result old.failed_writes new.failed_writes
  pub fault : IfErr result (λ e. e ≡ Failing)

-- So many reads, writes and syncs were made, no more and no fewer.
pub record MadeExactly (r w s : ℕ) (old new : State) : Type 0 where
  pub reads : new.made.reads ≡ old.made.reads + r
  pub writes : new.made.writes ≡ old.made.writes + w
  pub syncs : new.made.syncs ≡ old.made.syncs + s

-- a count rose by this much at most
abbrev pub RoseAtMost : ℕ → ℕ → ℕ → Type 0
RoseAtMost most before now = (before ≤ now) × (now ≤ before + most)

-- At most so many reads, writes and syncs were made.
pub record MadeAtMost (r w s : ℕ) (old new : State) : Type 0 where
  pub reads : RoseAtMost r old.made.reads new.made.reads
  pub writes : RoseAtMost w old.made.writes new.made.writes
  pub syncs : RoseAtMost s old.made.syncs new.made.syncs

-- What succeeds makes so many calls; what fails, no more.
abbrev pub MadeIfOk : {T E : Type 0} → Result T E → ℕ → ℕ → ℕ → State → State → Type 0
MadeIfOk (Ok _) r w s old new = MadeExactly r w s old new
MadeIfOk (Err _) r w s old new = MadeAtMost r w s old new
