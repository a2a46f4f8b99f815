-- What the answers of the single calls are as outcomes of events.
use Rattle.std.specs.Prelude.{ℕ, List, take, Result, Ok, Err}
use Rattle.host_types.specs.declared.site_fault.SiteFault.{SiteFault}
use Rattle.host_types.specs.declared.site_fault.SiteFault.TheVariants as faults
use Rattle.group_world.specs.declared.event.Outcome.{Outcome}
use Rattle.group_world.specs.declared.event.Outcome.TheVariants as outcomes
use Rattle.group_world.specs.declared.fault.HubFault.{HubFault}
use Rattle.group_world.specs.declared.fault.HubFault.TheVariants as hub
use Rattle.group_world.specs.declared.answer.InputStatus.{InputStatus}
use Rattle.group_world.specs.declared.answer.InputStatus.TheVariants as heard
use Rattle.group_world.specs.declared.answer.Drawn.{Drawn}
use Rattle.group_world.specs.declared.answer.Drawn.TheVariants as drawn
use Rattle.group_world.specs.declared.answer.Flushed.{Flushed}

abbrev pub join_outcome : Result ℕ HubFault → Outcome
join_outcome (Ok id) = outcomes.Joined id
join_outcome (Err fault) = outcomes.Fault fault

abbrev pub heard_outcome : InputStatus → Outcome
heard_outcome heard.More = outcomes.More
heard_outcome heard.Ready = outcomes.Ready
heard_outcome heard.Finished = outcomes.Finished
heard_outcome heard.Waiting = outcomes.Waiting

abbrev pub bytes_outcome : Result InputStatus HubFault → Outcome
bytes_outcome (Ok h) = heard_outcome h
bytes_outcome (Err fault) = outcomes.Fault fault

-- the bytes drawn are the first so many of the buffer
abbrev pub drawn_outcome : Drawn → List ℕ → Outcome
drawn_outcome (drawn.Bytes n) buffer = outcomes.Drawn (take n buffer)
drawn_outcome drawn.Finished buffer = outcomes.Finished

-- how many bytes of the buffer were drawn
abbrev pub drawn_length : Drawn → ℕ
drawn_length (drawn.Bytes n) = n
drawn_length drawn.Finished = 0

abbrev pub draw_outcome : Result Drawn HubFault → List ℕ → Outcome
draw_outcome (Ok d) buffer = drawn_outcome d buffer
draw_outcome (Err fault) buffer = outcomes.Fault fault

abbrev pub leave_outcome : {T : Type 0} → Result T HubFault → Outcome
leave_outcome (Ok _) = outcomes.Gone
leave_outcome (Err fault) = outcomes.Fault fault

abbrev pub admin_outcome : {T : Type 0} → Result T HubFault → Outcome
admin_outcome (Ok _) = outcomes.Done
admin_outcome (Err fault) = outcomes.Fault fault

abbrev pub flush_outcome : Result Flushed HubFault → Outcome
flush_outcome (Ok f) = outcomes.Flushed f.answered f.left
flush_outcome (Err fault) = outcomes.Fault fault

-- what a hub answers where its site has a fault
abbrev pub fault_of : SiteFault → HubFault
fault_of (faults.Refused refused) = hub.Refused refused
fault_of faults.Read = hub.Broken
fault_of (faults.Full need free) = hub.Full need free
fault_of faults.Spent = hub.Spent
fault_of faults.Deep = hub.Deep
fault_of faults.Failed = hub.Failed
fault_of faults.Memory = hub.Memory
