-- What a call over a device does to it and to its crash states.
use Rattle.std.specs.Prelude.{Result, IfOk, OnOk, IsTrue}
use Rattle.common_types.specs.CrashStates.{CrashStates, AddsNone}
use Rattle.sector_device.specs.Device.{State}
use Rattle.sector_device.specs.Effects.{IsSameDevice, OnlyReads, ReadOutcome, WriteOutcome}
use Rattle.sector_device.specs.declared.device.DeviceFault.{DeviceFault}
use Rattle.sector_device.specs.Sectors.{Image}
use Rattle.sector_device.specs.Steps.{Makes}

-- The device stays the same, and no crash state is added.
pub record KeepsDevice {D : Type 0} (state : D → State) (crash_states : D → CrashStates Image) (old new : D) : Type 0 where
  pub same : IsSameDevice (state old) (state new)
  pub no_new_crash_state : IsTrue (state old).honest → AddsNone (crash_states old) (crash_states new)

-- The device is only read, and no crash state is added.
pub record IsReadCall {D : Type 0} (state : D → State) (crash_states : D → CrashStates Image) (old new : D) : Type 0 where
  pub only : OnlyReads (state old) (state new)
  pub no_new_crash_state : IsTrue (state old).honest → AddsNone (crash_states old) (crash_states new)

-- A read: of an honest device it gives this answer, by what the device shows, and no crash state is added.
pub record ReadsDevice {T D : Type 0} (state : D → State) (crash_states : D → CrashStates Image) (old new : D) (result : Result T DeviceFault) (answer : Image → T → Type 0) : Type 0 where
  pub gives : IsTrue (state old).honest → IfOk result (answer (state old).disk.view)
  pub outcome : ReadOutcome result (state old) (state new)
  pub no_new_crash_state : IsTrue (state old).honest → AddsNone (crash_states old) (crash_states new)

-- A write: where it succeeds, an honest device shows what was written; whether it succeeds or not, each crash state comes of one from before by such a step.
pub record WritesDevice {T D : Type 0} (state : D → State) (crash_states : D → CrashStates Image) (old new : D) (result : Result T DeviceFault) (shown step : Image → Image → Type 0) : Type 0 where
  pub shows : IsTrue (state old).honest → OnOk result (shown (state old).disk.view (state new).disk.view)
  pub leaves : IsTrue (state old).honest → Makes (crash_states old) (crash_states new) step
  pub outcome : WriteOutcome result (state old) (state new)
