-- What a commit of a batch and a banner takes and leaves, effect by effect.
use Rattle.std.specs.Prelude.{◌≡◌, ◌⊎◌, ◌<◌, ◌≤◌, ◌+◌, ◌*◌, ℕ, Bool, true, false, List, Result, IsTrue, IfErr, IsErrOf}
use Rattle.common_types.specs.CrashStates.{CrashStates, AddsOnly, AddsNone}
use Rattle.page_store.specs.Batch.{updated}
use Rattle.page_store.specs.Counting.{CountsStoreReads, CountsStoreWrites}
use Rattle.page_store.specs.Pages.{Pair}
use Rattle.page_store.specs.StoreState.{StoreState, CommitNeed, SoManyPages, StoreHasTried, NeedsTheSame, IsCommitFault, numbers_out, last_generation, most_levels}
use Rattle.page_store.specs.Work.{CommitsWithin}
use Rattle.page_store.specs.declared.banner.Banner.{Banner}
use Rattle.page_store.specs.declared.edit.Edit.{Edit}
use Rattle.page_store.specs.declared.fault.KeeperFault.{KeeperFault}
use Rattle.page_store.specs.declared.fault.KeeperFault.TheVariants.{Failed, Spent}

-- A banner that a keeper takes.
pub record TakesBanner (holds_version : ℕ → Bool) (banner : Banner) : Type 0 where
  pub port : 0 < banner.port
  pub version : IsTrue (holds_version banner.version)

-- The batch and the banner stand in the next generation, as many pages as that needs were free, and the pins keep what they kept.
pub record CommitsBatch (old new : StoreState) (batch : List Edit) (given : Banner) (may_need : CommitNeed → Type 0) : Type 0 where
  pub done : IsTrue old.honest → new.pairs ≡ updated old.pairs batch
  pub banner : new.banner ≡ given
  pub still_usable : new.usable ≡ true
  pub rises : new.top ≡ old.top + 1
  pub generation : new.generation ≡ old.top + 1
  pub out : numbers_out new ≡ numbers_out old
  pub pins : IsTrue old.honest → new.pins ≡ old.pins
  pub fits : IsTrue old.honest → (n : ℕ) × may_need (SoManyPages n) × (n ≤ old.free)

-- A commit of so many edits fails by its cause. Where no write or sync failed a batch may need the same as before, and where one failed this batch had room.
pub record FailsToCommit (old new : StoreState) (edits : ℕ) (may_need : CommitNeed → Type 0) (needs needs_now : List Edit → CommitNeed → Type 0) (fault : KeeperFault) : Type 0 where
  pub cause : IsCommitFault old new edits may_need fault
  pub need : new.usable ≡ old.usable → NeedsTheSame needs needs_now
  pub tight : IsTrue old.honest → old.usable ≡ true → new.usable ≡ false → (n : ℕ) × may_need (SoManyPages n) × (n ≤ old.free)

-- What is closed stays as it is, and the last generation has none behind it.
pub record CommitsNoMore {T : Type 0} (old new : StoreState) (result : Result T KeeperFault) : Type 0 where
  pub closed : old.usable ≡ false → IsErrOf result Failed
  pub unchanged : old.usable ≡ false → new ≡ old
  pub spent : old.usable ≡ true → old.top ≡ last_generation → IsErrOf result Spent

-- What a commit of so many edits counts, whatever it answers.
pub record CountsCommit {T : Type 0} (old new : StoreState) (edits : ℕ) (result : Result T KeeperFault) : Type 0 where
  pub tried : StoreHasTried old new
  pub reads : CountsStoreReads result old.failed_reads new.failed_reads
  pub writes : CountsStoreWrites old.usable result old.failed_writes new.failed_writes
  pub work : CommitsWithin (most_levels * edits) old.free old.made new.made

-- A crash within a commit leaves the pairs and the banner from before it, or the new ones. Where it was refused or closed, nothing was written.
pub record CommitCrashes {K S T : Type 0} (crash_states : K → CrashStates S) (has_content : S → List Pair → Banner → Type 0) (store_state : K → StoreState) (old new : K) (batch : List Edit) (given : Banner) (result : Result T KeeperFault) : Type 0 where
  pub at_crash : IsTrue (store_state old).honest → (store_state old).usable ≡ true → AddsOnly (crash_states old) (crash_states new) (λ c. has_content c (store_state old).pairs (store_state old).banner ⊎ has_content c (updated (store_state old).pairs batch) given)
  pub no_new_crash_state : IsTrue (store_state old).honest → IfErr result (λ e. (store_state new).usable ≡ true → AddsNone (crash_states old) (crash_states new))
  pub no_new_crash_state_when_closed : IsTrue (store_state old).honest → (store_state old).usable ≡ false → AddsNone (crash_states old) (crash_states new)
