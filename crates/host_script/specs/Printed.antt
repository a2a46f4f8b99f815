-- Outcomes as a script's answers are printed, and faults by their names.
use Rattle.std.specs.Prelude.{ℕ, List, ◌++◌, codes, decimal}
use Rattle.common_types.specs.declared.refused.Refused.{Refused as Refusal}
use Rattle.common_types.specs.Shown.{shown}
use Rattle.common_types.specs.PrintedNames.{refused_name, full_name}
use Rattle.group_world.specs.declared.event.Outcome.{Outcome}
use Rattle.group_world.specs.declared.event.Outcome.TheVariants.{Joined, More, Ready, Finished, Waiting, Drawn, Gone, Done, Flushed, Fault}
use Rattle.group_world.specs.declared.fault.HubFault.{HubFault}
use Rattle.group_world.specs.declared.fault.HubFault.TheVariants as hub
use Rattle.host_script.specs.declared.fault.ReplayFault.{ReplayFault as RunFault}
use Rattle.host_script.specs.declared.fault.ReplayFault.TheVariants.{Script, Memory, Output}

-- ---- names

-- a refusal goes by its own name
abbrev pub fault_name : HubFault → List ℕ
fault_name hub.Unknown = codes "Unknown"
fault_name hub.Crowded = codes "Crowded"
fault_name hub.Spent = codes "Spent"
fault_name hub.Deep = codes "Deep"
fault_name (hub.Refused refused) = refused_name refused
fault_name (hub.Full need free) = full_name need free
fault_name hub.Broken = codes "Broken"
fault_name hub.Failed = codes "Failed"
fault_name hub.Memory = codes "Memory"
fault_name hub.NotReady = codes "NotReady"

-- ---- lines, without their LF

abbrev pub refused_line : Refusal → List ℕ
refused_line refused = codes "fault " ++ refused_name refused

abbrev pub fault_line : HubFault → List ℕ
fault_line fault = codes "fault " ++ fault_name fault

-- how many of those that waited are answered, and how many are left
abbrev pub flushed_line : ℕ → ℕ → List ℕ
flushed_line answered left = codes "flushed " ++ decimal answered ++ codes " left " ++ decimal left

abbrev pub line_of : Outcome → List ℕ
line_of (Joined id) = codes "id " ++ decimal id
line_of More = codes "more"
line_of Ready = codes "ready"
line_of Finished = codes "finished"
line_of Waiting = codes "waiting"
line_of (Drawn bytes) = codes "drawn " ++ shown bytes
line_of Gone = codes "ok"
line_of Done = codes "ok"
line_of (Flushed answered left) = flushed_line answered left
line_of (Fault fault) = fault_line fault

-- what standard error gets of a run that ends with status 1
abbrev pub fault_text : RunFault → List ℕ
fault_text (Script n) = codes "script: line " ++ decimal n
fault_text Memory = codes "memory"
fault_text Output = codes "output"
