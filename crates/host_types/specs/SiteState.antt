-- What a keeper of a site is, but for what a crash may leave of it, and what its calls have in common.
use Rattle.std.specs.Prelude.{◌≡◌, ◌<◌, ◌≤◌, ℕ, Bool, true, false, List, drop, map, Result, Ok, Err, IsOk, IsTrue}
pub use Rattle.common_types.specs.Counts.{Rose}
use Rattle.host_types.specs.Site.{Site, Items}
use Rattle.host_types.specs.AllChanges.{Changes}
use Rattle.common_types.specs.declared.refused.Refused.{Refused}
use Rattle.host_types.specs.declared.site_fault.SiteFault.{SiteFault}
use Rattle.host_types.specs.declared.site_fault.SiteFault.TheVariants as faults

-- `honest`: what the site is kept on keeps its written meaning. `usable`: no write or sync has failed. `free`: how much a change may take. The counts are of failed reads, and of failed writes and syncs. `pins`: the number of each pin that is out, and the items that are kept under it; a pin that has a copy isn't among them.
pub record SiteState : Type 0 where
  pub site : Site
  pub honest : Bool
  pub usable : Bool
  pub free : ℕ
  pub failed_reads : ℕ
  pub failed_writes : ℕ
  pub pins : List (ℕ × Items)

-- the numbers of the pins that are out
abbrev pub numbers_out : SiteState → List ℕ
numbers_out h = map (λ pin. pin.0) h.pins

-- What a call that only reads leaves: the site and the flags stay, and reads may have failed.
pub record HasRead (old new : SiteState) : Type 0 where
  pub site : IsTrue old.honest → new.site ≡ old.site
  pub honest : new.honest ≡ old.honest
  pub usable : new.usable ≡ old.usable
  pub free : new.free ≡ old.free
  pub reads : old.failed_reads ≤ new.failed_reads
  pub writes : new.failed_writes ≡ old.failed_writes
  pub pins : new.pins ≡ old.pins

-- When a fault may come of a call that only reads, where it may lack memory or not.
abbrev pub IsReadFault : Bool → SiteState → SiteState → SiteFault → Type 0
IsReadFault may_lack_memory old new (faults.Refused r) = ⊥
IsReadFault may_lack_memory old new faults.Read = IsTrue old.honest → Rose old.failed_reads new.failed_reads
IsReadFault may_lack_memory old new (faults.Full need free) = ⊥
IsReadFault may_lack_memory old new faults.Spent = ⊥
IsReadFault may_lack_memory old new faults.Deep = ⊥
IsReadFault may_lack_memory old new faults.Failed = old.usable ≡ false
IsReadFault may_lack_memory old new faults.Memory = IsTrue may_lack_memory

-- Changes may be refused for lack of the same before and now.
pub record LacksTheSame (old new : Changes → SiteFault → Type 0) : Type 0 where
  pub after : (changes : Changes) (fault : SiteFault) → old changes fault → new changes fault
  pub before : (changes : Changes) (fault : SiteFault) → new changes fault → old changes fault

-- What stands in a buffer behind its first n places stays.
abbrev pub IsUnchangedBehind : ℕ → List ℕ → List ℕ → Type 0
IsUnchangedBehind n old new = drop n new ≡ drop n old

-- What a change that was not made leaves: nothing of the site has changed, its flags stay unless a write failed, and a change may take as much as before.
pub record HasNotChanged (old new : SiteState) : Type 0 where
  pub site : IsTrue old.honest → new.site ≡ old.site
  pub usable : new.usable ≡ old.usable
  pub free : new.free ≡ old.free

-- A write or a sync failed in this call, which has a change to make.
pub record HasFailed (old new : SiteState) (applied : Result Site Refused) : Type 0 where
  pub site : IsTrue old.honest → new.site ≡ old.site
  pub shut : new.usable ≡ false
  pub free : new.free ≡ old.free
  pub cause : IsTrue old.honest → old.usable ≡ true → Rose old.failed_writes new.failed_writes
  pub right : IsTrue old.honest → old.usable ≡ true → IsOk applied

-- When a fault may come of a change, and what stands then; `applied` is the site that the change would make, or its first refusal, and `lacks` says which fault a valid change may get for lack of room, or because no further change is taken.
abbrev pub IsChangeFault : (SiteFault → Type 0) → SiteState → SiteState → Result Site Refused → SiteFault → Type 0
IsChangeFault lacks old new applied (faults.Refused r) = HasNotChanged old new × (IsTrue old.honest → applied ≡ Err r)
IsChangeFault lacks old new applied faults.Read = HasNotChanged old new × (IsTrue old.honest → Rose old.failed_reads new.failed_reads)
IsChangeFault lacks old new applied (faults.Full need free) = HasNotChanged old new × ((free ≡ old.free) × (free < need)) × (IsTrue old.honest → IsOk applied × lacks (faults.Full need free))
IsChangeFault lacks old new applied faults.Spent = HasNotChanged old new × (IsTrue old.honest → IsOk applied × lacks faults.Spent)
IsChangeFault lacks old new applied faults.Deep = HasNotChanged old new × (IsTrue old.honest → IsOk applied × lacks faults.Deep)
IsChangeFault lacks old new applied faults.Failed = HasFailed old new applied
IsChangeFault lacks old new applied faults.Memory = HasNotChanged old new

-- Where no further change is taken, that is what a valid change is told, and not that it has no room or too many levels; nor is it made, nor tried.
abbrev pub SpentFirst : {T : Type 0} → (SiteFault → Type 0) → Result T SiteFault → Type 0
SpentFirst lacks (Ok _) = lacks faults.Spent → ⊥
SpentFirst lacks (Err (faults.Full need free)) = lacks faults.Spent → ⊥
SpentFirst lacks (Err faults.Deep) = lacks faults.Spent → ⊥
SpentFirst lacks (Err faults.Failed) = lacks faults.Spent → ⊥
SpentFirst lacks (Err other) = Unit {0}

-- What every change leaves, whatever it answers.
pub record HasTried (old new : SiteState) : Type 0 where
  pub honest : new.honest ≡ old.honest
  pub reads : old.failed_reads ≤ new.failed_reads
  pub writes : old.failed_writes ≤ new.failed_writes
  pub pins : new.pins ≡ old.pins
