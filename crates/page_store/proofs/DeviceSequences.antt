-- One call over a device after another.
use Rattle.std.proofs.Common.{◌∙◌, Result}
use Rattle.common_types.specs.CrashStates.{CrashStates, adds_none_again}
use Rattle.sector_device.specs.Device.{State}
use Rattle.sector_device.proofs.Works.{read_then}
use Rattle.sector_device.specs.Effects.{OnlyReads}
use Rattle.sector_device.specs.declared.device.DeviceFault.{DeviceFault}
pub use Rattle.sector_device.proofs.SameDevices.{same_after, still_honest}
use Rattle.page_store.specs.Sectors.{Image}
use Rattle.page_store.specs.DeviceEffects.{KeepsDevice, IsReadCall, ReadsDevice}

only_then : (a b c : State) → OnlyReads a b → OnlyReads b c → OnlyReads a c
only_then a b c first second = record {
  same = same_after a b c first.same second.same;
  disk = λ honest. second.disk (still_honest a b first.same honest) ∙ first.disk honest;
  writes = second.writes ∙ first.writes;
  made = read_then first.made second.made;
}

-- what one read and then another leave as it was
pub then_read : {T D : Type 0} {state : D → State} {crash_states : D → CrashStates Image} {a b c : D} {result : Result T DeviceFault} {answer : Image → T → Type 0} → IsReadCall state crash_states a b → ReadsDevice state crash_states b c result answer → IsReadCall state crash_states a c
then_read {state = state} {crash_states = crash_states} {a = a} {b = b} {c = c} first second = record {
  only = only_then (state a) (state b) (state c) first.only second.outcome.only;
  no_new_crash_state = λ honest. adds_none_again (crash_states a) (crash_states b) (crash_states c) (first.no_new_crash_state honest) (second.no_new_crash_state (still_honest (state a) (state b) first.only.same honest));
}

-- what a call that keeps a device and then reads leave as it was
pub keeps_then_reads : {D : Type 0} {state : D → State} {crash_states : D → CrashStates Image} {a b c : D} → KeepsDevice state crash_states a b → IsReadCall state crash_states b c → KeepsDevice state crash_states a c
keeps_then_reads {state = state} {crash_states = crash_states} {a = a} {b = b} {c = c} first second = record {
  same = same_after (state a) (state b) (state c) first.same second.only.same;
  no_new_crash_state = λ honest. adds_none_again (crash_states a) (crash_states b) (crash_states c) (first.no_new_crash_state honest) (second.no_new_crash_state (still_honest (state a) (state b) first.same honest));
}
