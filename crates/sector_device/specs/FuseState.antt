-- What callers see of a fuse.
use Rattle.std.specs.Prelude.{◌≡◌, ◌<◌, ◌-◌, ℕ, Result, IsErr}
use Rattle.common_types.specs.Counts.{counted, Counts}
use Rattle.sector_device.specs.Device.{State}
use Rattle.sector_device.specs.Fuse.{with_failures}
use Rattle.sector_device.specs.declared.device.DeviceFault.{DeviceFault}
use Rattle.sector_device.specs.declared.fuse_disk.FuseDisk.{FuseDisk}

-- the device inside
abbrev pub inside : {D : Type 0} → FuseDisk D → D
inside fuse = fuse.inner

-- how many more calls are passed on
abbrev pub calls_left : {D : Type 0} → FuseDisk D → ℕ
calls_left fuse = fuse.calls_left

-- how many reads the fuse itself failed
abbrev pub refused_reads : {D : Type 0} → FuseDisk D → ℕ
refused_reads fuse = fuse.failed_reads

-- how many writes and syncs the fuse itself failed
abbrev pub refused_writes : {D : Type 0} → FuseDisk D → ℕ
refused_writes fuse = fuse.failed_writes

-- the device inside, which has failed so often besides; its calls are those of the fuse itself
abbrev pub fuse_state : {D : Type 0} → (D → State) → FuseDisk D → State
fuse_state state fuse = with_failures (state fuse.inner) fuse.failed_reads fuse.failed_writes fuse.made.made

-- What a call does to the fuse itself: one of the calls that are left is taken. Where none was, it is refused and counted, among reads or among writes and syncs, and the device inside stays; else that counts it alone.
pub record Fuses {D T : Type 0} (state : D → State) (refused other : FuseDisk D → ℕ) (failed : State → ℕ) (old new : FuseDisk D) (result : Result T DeviceFault) : Type 0 where
  pub burns : calls_left new ≡ calls_left old - 1
  pub blown : calls_left old ≡ 0 → IsErr result × (inside new ≡ inside old)
  pub refuses : calls_left old ≡ 0 → refused new ≡ counted (refused old)
  pub refuses_no_other : other new ≡ other old
  pub refuses_none : 0 < calls_left old → refused new ≡ refused old
  pub passes : 0 < calls_left old → Counts result (failed (state (inside old))) (failed (state (inside new)))
