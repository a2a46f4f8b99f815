-- What callers see of a device of which one call fails.
use Rattle.std.specs.Prelude.{◌≡◌, ℕ, Option, Result, IsErr}
use Rattle.common_types.specs.Counts.{counted}
use Rattle.sector_device.specs.Device.{State}
use Rattle.sector_device.specs.Fuse.{with_failures}
use Rattle.sector_device.specs.Once.{Fails, after_call}
use Rattle.sector_device.specs.declared.device.DeviceFault.{DeviceFault}
use Rattle.sector_device.specs.declared.once_disk.OnceDisk.{OnceDisk}

-- the device inside
abbrev pub inside : {D : Type 0} → OnceDisk D → D
inside once = once.inner

-- how many calls pass before the one that fails; none, once that one was made
abbrev pub calls_before : {D : Type 0} → OnceDisk D → Option ℕ
calls_before once = once.calls_before

-- how many reads it failed itself
abbrev pub refused_reads : {D : Type 0} → OnceDisk D → ℕ
refused_reads once = once.failed_reads

-- how many writes and syncs it failed itself
abbrev pub refused_writes : {D : Type 0} → OnceDisk D → ℕ
refused_writes once = once.failed_writes

-- the device inside, which has failed so often besides; its calls are those that were made of this one
abbrev pub once_state : {D : Type 0} → (D → State) → OnceDisk D → State
once_state state once = with_failures (state once.inner) once.failed_reads once.failed_writes once.made.made

-- it failed no call itself
pub record RefusesNone {D : Type 0} (old new : OnceDisk D) : Type 0 where
  pub reads : refused_reads new ≡ refused_reads old
  pub writes : refused_writes new ≡ refused_writes old

-- it failed a read itself
pub record RefusesRead {D : Type 0} (old new : OnceDisk D) : Type 0 where
  pub reads : refused_reads new ≡ counted (refused_reads old)
  pub writes : refused_writes new ≡ refused_writes old

-- it failed a write or a sync itself
pub record RefusesWrite {D : Type 0} (old new : OnceDisk D) : Type 0 where
  pub reads : refused_reads new ≡ refused_reads old
  pub writes : refused_writes new ≡ counted (refused_writes old)

-- What a call does, by whether it is the one that fails: it is refused, and the device inside stays, or it goes as inside.
pub record FailsOnce {D T : Type 0} (Refuses Passes : Type 0) (old new : OnceDisk D) (result : Result T DeviceFault) : Type 0 where
  pub next : calls_before new ≡ after_call (calls_before old)
  pub fails : Fails (calls_before old) → IsErr result × (inside new ≡ inside old) × Refuses
  pub passes : (Fails (calls_before old) → ⊥) → Passes × RefusesNone old new
