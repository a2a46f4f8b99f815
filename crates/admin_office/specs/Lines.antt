-- What an administrator is told, without the LF.
use Rattle.std.specs.Prelude.{ℕ, List, codes, false}
use Rattle.host_types.specs.declared.site_fault.SiteFault.{SiteFault}
use Rattle.host_types.specs.declared.site_fault.SiteFault.TheVariants as site
use Rattle.group_world.specs.declared.fault.HubFault.{HubFault}
use Rattle.group_world.specs.declared.fault.HubFault.TheVariants as hub
use Rattle.change_file.specs.declared.fault.ApplyFault.{ApplyFault}
use Rattle.admin_lines.specs.Replies.{reply}

-- what a hub's fault is of its site; the last three no change is answered by
abbrev pub site_fault : HubFault → SiteFault
site_fault (hub.Refused refused) = site.Refused refused
site_fault (hub.Full need free) = site.Full need free
site_fault hub.Spent = site.Spent
site_fault hub.Broken = site.Read
site_fault hub.Failed = site.Failed
site_fault hub.Memory = site.Memory
site_fault hub.Deep = site.Deep
site_fault hub.Unknown = site.Failed
site_fault hub.Crowded = site.Failed
site_fault hub.NotReady = site.Failed

-- the change of this number was not made
abbrev pub not_made : ℕ → SiteFault → ApplyFault
not_made number fault = record { number = number; fault = fault }

-- the reply where there was no memory for another
abbrev pub no_memory : List ℕ
no_memory = reply false (codes "memory")
