-- When a change of a site in memory fails.
use Rattle.std.specs.Prelude.{◌≡◌, ℕ, Result, Err}
use Rattle.host_types.specs.Site.{Site}
use Rattle.common_types.specs.declared.refused.Refused.{Refused}
use Rattle.host_types.specs.declared.site_fault.SiteFault.{SiteFault}
use Rattle.host_types.specs.declared.site_fault.SiteFault.TheVariants as faults
use Rattle.host_types.specs.declared.changes_fault.ChangesFault.{ChangesFault}
use Rattle.host_types.specs.declared.changes_fault.ChangesFault.TheVariants as all_faults

-- a fault of a site in memory: a refusal that is the definition's, or lack of memory
abbrev pub IsMemoryFault : SiteFault → Result Site Refused → Type 0
IsMemoryFault (faults.Refused r) applied = applied ≡ Err r
IsMemoryFault faults.Read applied = ⊥
IsMemoryFault (faults.Full need free) applied = ⊥
IsMemoryFault faults.Spent applied = ⊥
IsMemoryFault faults.Deep applied = ⊥
IsMemoryFault faults.Failed applied = ⊥
IsMemoryFault faults.Memory applied = Unit {0}

-- a fault of several changes of a site in memory: the first refusal that is the definition's, or lack of memory
abbrev pub IsMemoryFaultOfAll : ChangesFault → Result Site (ℕ × Refused) → Type 0
IsMemoryFaultOfAll (all_faults.RefusedAt place r) applied = applied ≡ Err (place, r)
IsMemoryFaultOfAll all_faults.Read applied = ⊥
IsMemoryFaultOfAll (all_faults.Full need free) applied = ⊥
IsMemoryFaultOfAll all_faults.Spent applied = ⊥
IsMemoryFaultOfAll all_faults.Deep applied = ⊥
IsMemoryFaultOfAll all_faults.Failed applied = ⊥
IsMemoryFaultOfAll all_faults.Memory applied = Unit {0}
