-- One call of a hub whose posts may wait: its step, its cause, what it counts, and what it leaves.
use Rattle.std.specs.Prelude.{◌≡◌, ◌⊎◌, ◌<◌, ◌≤◌, ℕ, zero, suc, true, false, [], ◌∷◌, IsTrue}
use Rattle.common_types.specs.Counts.{counted}
use Rattle.host_types.specs.SiteState.{SiteState, Rose}
use Rattle.host_types.specs.declared.site_fault.SiteFault.{SiteFault}
use Rattle.host_types.specs.declared.site_fault.SiteFault.TheVariants as faults
use Rattle.group_world.specs.declared.fault.HubFault.{HubFault}
use Rattle.group_world.specs.declared.fault.HubFault.TheVariants as hub
use Rattle.group_world.specs.Step.{Changes}

-- ---- causes

-- There are changes, and the keeper may refuse them so, for lack of room, or because it takes no further change.
abbrev pub IsKeeperLacking : (Changes → SiteFault → Type 0) → Changes → SiteFault → Type 0
IsKeeperLacking lacks [] fault = ⊥
IsKeeperLacking lacks (c ∷ changes) fault = lacks (c ∷ changes) fault

-- The changes can't be refused as `Spent`, which is told before lack of room and too many levels.
abbrev pub IsUnspent : (Changes → SiteFault → Type 0) → Changes → Type 0
IsUnspent lacks changes = IsKeeperLacking lacks changes faults.Spent → ⊥

-- Why several changes may not go in one step: they need more than is free, or might grow too many levels, and they can't be refused as `Spent`.
pub record MaySplit (lacks : Changes → SiteFault → Type 0) (h : SiteState) (changes : Changes) : Type 0 where
  pub cause : ((need : ℕ) × (h.free < need) × IsKeeperLacking lacks changes (faults.Full need h.free)) ⊎ IsKeeperLacking lacks changes faults.Deep
  pub unspent : IsUnspent lacks changes

-- `Crowded` as the world says: 16 posts wait already.
abbrev pub IsHeardCause : (Changes → SiteFault → Type 0) → Changes → SiteState → SiteState → HubFault → Type 0
IsHeardCause lacks changes old new hub.Unknown = old.usable ≡ true
IsHeardCause lacks changes old new hub.Memory = old.usable ≡ true
IsHeardCause lacks changes old new hub.Crowded = old.usable ≡ true
IsHeardCause lacks changes old new hub.Broken = (old.usable ≡ true) × (IsTrue old.honest → Rose old.failed_reads new.failed_reads)
IsHeardCause lacks changes old new (hub.Full need free) = (old.usable ≡ true) × ((free ≡ old.free) × (free < need)) × (IsTrue old.honest → IsKeeperLacking lacks changes (faults.Full need free) × IsUnspent lacks changes)
IsHeardCause lacks changes old new hub.Spent = (old.usable ≡ true) × (IsTrue old.honest → IsKeeperLacking lacks changes faults.Spent)
IsHeardCause lacks changes old new hub.Deep = (old.usable ≡ true) × (IsTrue old.honest → IsKeeperLacking lacks changes faults.Deep × IsUnspent lacks changes)
IsHeardCause lacks changes old new hub.Failed = IsTrue old.honest → (old.usable ≡ false) ⊎ Rose old.failed_writes new.failed_writes
IsHeardCause lacks changes old new (hub.Refused refused) = ⊥
IsHeardCause lacks changes old new hub.NotReady = ⊥

-- What a flush may answer in place of its answer: it asks no session, and what the group lacks is told by the posts that are left.
abbrev pub IsFlushCause : (Changes → SiteFault → Type 0) → Changes → SiteState → SiteState → HubFault → Type 0
IsFlushCause lacks changes old new hub.Memory = old.usable ≡ true
IsFlushCause lacks changes old new hub.Broken = (old.usable ≡ true) × (IsTrue old.honest → Rose old.failed_reads new.failed_reads)
IsFlushCause lacks changes old new hub.Spent = (old.usable ≡ true) × (IsTrue old.honest → IsKeeperLacking lacks changes faults.Spent)
IsFlushCause lacks changes old new hub.Failed = IsTrue old.honest → (old.usable ≡ false) ⊎ Rose old.failed_writes new.failed_writes
IsFlushCause lacks changes old new fault = ⊥

-- ---- counts

-- so many reads that failed are counted, each once
abbrev pub counted_times : ℕ → ℕ → ℕ
counted_times zero count = count
counted_times (suc n) count = counted_times n (counted count)

-- Each post that is left of a flush may have met a read that failed.
abbrev pub CountsLeft : ℕ → SiteState → SiteState → Type 0
CountsLeft left old new = (n : ℕ) × (n ≤ left) × (new.failed_reads ≡ counted_times n old.failed_reads)
