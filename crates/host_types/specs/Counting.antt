-- What the calls of a keeper of a site count.
use Rattle.std.specs.Prelude.{◌≡◌, ℕ, Bool, true, Result, Ok, Err, IsTrue}
pub use Rattle.common_types.specs.Counts.{counted, counted_below}
use Rattle.host_types.specs.SiteState.{SiteState}
use Rattle.host_types.specs.declared.site_fault.SiteFault.{SiteFault}
use Rattle.host_types.specs.declared.site_fault.SiteFault.TheVariants as faults

-- The count of failed reads after a fault: a read that failed is counted, once, and nothing else. What is kept on something that is not honest may give what can't be read, and then no read failed.
abbrev pub IsReadCounted : Bool → SiteFault → ℕ → ℕ → Type 0
IsReadCounted honest faults.Read before now = IsTrue honest → now ≡ counted before
IsReadCounted honest other before now = now ≡ before

-- how a call goes on with the count of failed reads
abbrev pub CountsReads : {T : Type 0} → Result T SiteFault → SiteState → SiteState → Type 0
CountsReads (Ok _) old new = new.failed_reads ≡ old.failed_reads
CountsReads (Err fault) old new = IsReadCounted old.honest fault old.failed_reads new.failed_reads

-- the count of failed writes and syncs after a fault of a keeper that was usable or not: the first that failed is counted, and nothing else
abbrev pub writes_after : Bool → SiteFault → ℕ → ℕ
writes_after true faults.Failed count = counted count
writes_after usable other count = count

-- how a call goes on with the count of failed writes and syncs
abbrev pub CountsWrites : {T : Type 0} → Result T SiteFault → SiteState → SiteState → Type 0
CountsWrites (Ok _) old new = new.failed_writes ≡ old.failed_writes
CountsWrites (Err fault) old new = new.failed_writes ≡ writes_after old.usable fault old.failed_writes

-- What a call counts that has failed with this fault.
pub record CountsFault (fault : SiteFault) (old new : SiteState) : Type 0 where
  pub reads : IsReadCounted old.honest fault old.failed_reads new.failed_reads
  pub writes : new.failed_writes ≡ writes_after old.usable fault old.failed_writes

-- A call that has not failed counts nothing.
pub record CountsNothing (old new : SiteState) : Type 0 where
  pub reads : new.failed_reads ≡ old.failed_reads
  pub writes : new.failed_writes ≡ old.failed_writes
