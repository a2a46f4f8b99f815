-- One call that only reads after another.
use Rattle.std.proofs.Common.{◌∙◌}
use Rattle.common_types.specs.CrashStates.{CrashStates, adds_none_again}
use Rattle.sector_device.specs.Device.{State}
use Rattle.sector_device.proofs.Works.{read_then}
use Rattle.sector_device.specs.Effects.{OnlyReads}
use Rattle.page_store.specs.Sectors.{Image}
use Rattle.page_store.specs.DeviceEffects.{IsReadCall}
use Rattle.page_store.proofs.DeviceSequences.{still_honest}

only_reads : (a b c : State) → OnlyReads a b → OnlyReads b c → OnlyReads a c
only_reads a b c first second = record {
  same = record { size = second.same.size ∙ first.same.size; honest = second.same.honest ∙ first.same.honest };
  disk = λ honest. second.disk (still_honest a b first.same honest) ∙ first.disk honest;
  writes = second.writes ∙ first.writes;
  made = read_then first.made second.made;
}

pub reads_again : {D : Type 0} {state : D → State} {crash_states : D → CrashStates Image} {a b c : D} → IsReadCall state crash_states a b → IsReadCall state crash_states b c → IsReadCall state crash_states a c
reads_again {state = state} {crash_states = crash_states} {a = a} {b = b} {c = c} first second = record {
  only = only_reads (state a) (state b) (state c) first.only second.only;
  no_new_crash_state = λ honest. adds_none_again (crash_states a) (crash_states b) (crash_states c) (first.no_new_crash_state honest) (second.no_new_crash_state (still_honest (state a) (state b) first.only.same honest));
}
