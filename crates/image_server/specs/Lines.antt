-- What is printed of a server that ended.
use Rattle.std.specs.Prelude.{ℕ, List, ◌++◌, codes, decimal}
use Rattle.socket_wires.specs.declared.serving.ServeFault.{ServeFault}
use Rattle.socket_wires.specs.declared.serving.ServeFault.TheVariants as rounds
use Rattle.host_on_disk.specs.declared.open_fault.OpenFault.TheVariants.{Keeper}
use Rattle.page_store.specs.declared.fault.KeeperFault.TheVariants.{Failed}
use Rattle.image_commands.specs.Faults.{of_opening}
use Rattle.image_commands.specs.FaultLines.{fault_line}
use Rattle.image_server.specs.declared.serving.ServingFault.{ServingFault}
use Rattle.image_server.specs.declared.serving.ServingFault.TheVariants.{Image, Listener, Net}

abbrev pub served_line : ℕ → List ℕ
served_line served = codes "served " ++ decimal served

abbrev pub round_line : ServeFault → List ℕ
round_line rounds.Net = codes "net"
round_line rounds.Failed = fault_line (of_opening (Keeper Failed))
round_line rounds.Memory = codes "memory"

abbrev pub serving_line : ServingFault → List ℕ
serving_line (Image fault) = fault_line (of_opening fault)
serving_line (Listener at cause) = codes "net"
serving_line Net = codes "net"
