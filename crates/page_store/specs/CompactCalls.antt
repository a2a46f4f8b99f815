-- What writing all pairs anew takes and leaves, effect by effect.
use Rattle.std.specs.Prelude.{◌≡◌, ◌≤◌, ℕ, true, false, List, Result, IsTrue, IfErr}
use Rattle.common_types.specs.CrashStates.{CrashStates, AddsOnly, AddsNone}
use Rattle.page_store.specs.Compaction.{IsCompacted, IsCompactFault, CompactsTheSame}
use Rattle.page_store.specs.Counting.{CountsStoreReads, CountsStoreWrites}
use Rattle.page_store.specs.Pages.{Pair}
use Rattle.page_store.specs.StoreState.{StoreState, CommitNeed, StoreHasTried, NeedsTheSame}
use Rattle.page_store.specs.Work.{WritesAtMost}
use Rattle.page_store.specs.declared.banner.Banner.{Banner}
use Rattle.page_store.specs.declared.edit.Edit.{Edit}
use Rattle.page_store.specs.declared.fault.KeeperFault.{KeeperFault}

-- The same pairs stand anew, in filled pages, and as many pages as that takes were free.
pub record WritesAnew (old new : StoreState) (is_filled : Type 0) (may_need : ℕ → Type 0) : Type 0 where
  pub done : IsCompacted old new
  pub filled : IsTrue old.honest → is_filled
  pub fits : IsTrue old.honest → (n : ℕ) × may_need n × (n ≤ old.free)

-- Writing anew fails by its cause. Where no write or sync failed it may take as much as before, and a batch may need the same; where one failed there was room.
pub record FailsToCompact {K : Type 0} (store_state : K → StoreState) (takes : K → ℕ → Type 0) (may_need : K → List Edit → CommitNeed → Type 0) (old new : K) (fault : KeeperFault) : Type 0 where
  pub cause : IsCompactFault (store_state old) (store_state new) (takes old) fault
  pub need : (store_state new).usable ≡ (store_state old).usable → NeedsTheSame (may_need old) (may_need new) × CompactsTheSame (takes old) (takes new)
  pub tight : IsTrue (store_state old).honest → (store_state old).usable ≡ true → (store_state new).usable ≡ false → (n : ℕ) × takes old n × (n ≤ (store_state old).free)

-- What writing anew counts, whatever it answers.
pub record CountsCompaction {T : Type 0} (old new : StoreState) (result : Result T KeeperFault) : Type 0 where
  pub tried : StoreHasTried old new
  pub reads : CountsStoreReads result old.failed_reads new.failed_reads
  pub writes : CountsStoreWrites old.usable result old.failed_writes new.failed_writes
  pub work : WritesAtMost old.free old.made new.made

-- A crash within it leaves the same pairs and the same banner. Where it was refused or closed, nothing was written.
pub record CompactionCrashes {K S T : Type 0} (crash_states : K → CrashStates S) (has_content : S → List Pair → Banner → Type 0) (store_state : K → StoreState) (old new : K) (result : Result T KeeperFault) : Type 0 where
  pub at_crash : IsTrue (store_state old).honest → (store_state old).usable ≡ true → AddsOnly (crash_states old) (crash_states new) (λ c. has_content c (store_state old).pairs (store_state old).banner)
  pub no_new_crash_state : IsTrue (store_state old).honest → IfErr result (λ e. (store_state new).usable ≡ true → AddsNone (crash_states old) (crash_states new))
  pub no_new_crash_state_when_closed : IsTrue (store_state old).honest → (store_state old).usable ≡ false → AddsNone (crash_states old) (crash_states new)
