-- What standard error gets of a change that was not made.
use Rattle.std.specs.Prelude.{ℕ, List}
use Rattle.host_types.specs.declared.site_fault.SiteFault.{SiteFault}
use Rattle.host_types.specs.declared.site_fault.SiteFault.TheVariants as site
use Rattle.change_file.specs.declared.fault.ApplyFault.{ApplyFault}
use Rattle.common_types.specs.PrintedNames.{refused_name, change_line}
use Rattle.image_commands.specs.Faults.{of_site}
use Rattle.image_commands.specs.FaultLines.{fault_line}

-- a refusal is the change's, and any other fault the image's
abbrev pub line_of : ℕ → SiteFault → List ℕ
line_of number (site.Refused refused) = change_line number (refused_name refused)
line_of number site.Read = fault_line (of_site site.Read)
line_of number (site.Full need free) = fault_line (of_site (site.Full need free))
line_of number site.Spent = fault_line (of_site site.Spent)
line_of number site.Deep = fault_line (of_site site.Deep)
line_of number site.Failed = fault_line (of_site site.Failed)
line_of number site.Memory = fault_line (of_site site.Memory)

abbrev pub stopped_line : ApplyFault → List ℕ
stopped_line stopped = line_of stopped.number stopped.fault
