-- What the calls of a hub, and of one session, count, and what whole runs do.
use Rattle.std.specs.Prelude.{◌≡◌, ℕ, zero, suc, Bool, Result, Ok, Err, IsTrue, if◌then◌else◌}
use Rattle.common_types.specs.Counts.{counted}
use Rattle.host_types.specs.SiteState.{SiteState}
use Rattle.group_world.specs.World.{World, count_waiting}
use Rattle.group_world.specs.Calls.{CountsLeft}
use Rattle.group_world.specs.declared.event.Event.{Event}
use Rattle.group_world.specs.declared.event.Event.TheVariants.{Flush}
use Rattle.group_world.specs.declared.event.Outcome.{Outcome}
use Rattle.group_world.specs.declared.event.Outcome.TheVariants.{Fault, Flushed}
use Rattle.group_world.specs.declared.fault.HubFault.{HubFault}
use Rattle.group_world.specs.declared.fault.HubFault.TheVariants as hub

-- The count of failed reads after a fault: a read that failed is counted, once, and no other fault counts one. What is kept on something that is not honest may give what can't be read, and then no read failed.
abbrev pub IsHubReadCounted : Bool → HubFault → ℕ → ℕ → Type 0
IsHubReadCounted honest hub.Broken before now = IsTrue honest → now ≡ counted before
IsHubReadCounted honest other before now = now ≡ before

-- how a call goes on with the count of failed reads
abbrev pub HubCountsReads : {T : Type 0} → Result T HubFault → SiteState → SiteState → Type 0
HubCountsReads (Ok _) old new = new.failed_reads ≡ old.failed_reads
HubCountsReads (Err fault) old new = IsHubReadCounted old.honest fault old.failed_reads new.failed_reads

-- the count of failed writes and syncs after a fault of a keeper that was usable or not: the first that failed is counted, and nothing else
abbrev pub writes_after : Bool → HubFault → ℕ → ℕ
writes_after usable hub.Failed count = if usable then counted count else count
writes_after usable other count = count

-- how a call goes on with the count of failed writes and syncs
abbrev pub HubCountsWrites : {T : Type 0} → Result T HubFault → SiteState → SiteState → Type 0
HubCountsWrites (Ok _) old new = new.failed_writes ≡ old.failed_writes
HubCountsWrites (Err fault) old new = new.failed_writes ≡ writes_after old.usable fault old.failed_writes

-- How a call goes on with both counts: its answer says by how much each has risen.
pub record CountsCall {T : Type 0} (result : Result T HubFault) (old new : SiteState) : Type 0 where
  pub reads : HubCountsReads result old new
  pub writes : HubCountsWrites result old new

-- an event's outcome as the answer of a call
abbrev pub result_of : Outcome → Result Outcome HubFault
result_of (Fault fault) = Err fault
result_of outcome = Ok outcome

-- ---- of an event

-- Each post that a flush leaves waiting may have met a read that failed.
abbrev pub CountsFlush : ℕ → Outcome → SiteState → SiteState → Type 0
CountsFlush waiting (Flushed answered zero) old new = new.failed_reads ≡ old.failed_reads
CountsFlush waiting (Flushed answered (suc left)) old new = IsTrue old.honest → CountsLeft (suc left) old new
CountsFlush waiting (Fault hub.Failed) old new = IsTrue old.honest → CountsLeft waiting old new
CountsFlush waiting outcome old new = HubCountsReads (result_of outcome) old new

abbrev pub CountsReadsOf : World → Event → Outcome → SiteState → SiteState → Type 0
CountsReadsOf w Flush outcome old new = CountsFlush (count_waiting w.sessions) outcome old new
CountsReadsOf w e outcome old new = HubCountsReads (result_of outcome) old new

-- how an event goes on with both counts
pub record CountsEvent (w : World) (e : Event) (outcome : Outcome) (old new : SiteState) : Type 0 where
  pub reads : CountsReadsOf w e outcome old new
  pub writes : HubCountsWrites (result_of outcome) old new
