-- What a call that looks pairs up gives, leaves and counts, effect by effect.
use Rattle.std.specs.Prelude.{◌≡◌, ◌≤◌, ℕ, false, List, length, take, Option, Result, option_map, IsTrue, IfOk, IfErr, IfSome, IsErrOf}
use Rattle.common_types.specs.CrashStates.{CrashStates, AddsNone}
use Rattle.page_store.specs.Batch.{value_at, pair_after}
use Rattle.page_store.specs.Counting.{CountsStoreReads}
use Rattle.page_store.specs.Pages.{Pair}
use Rattle.page_store.specs.StoreState.{StoreState, CommitNeed, StoreHasRead, NeedsTheSame, IsFilled, IsStoreReadFault}
use Rattle.page_store.specs.declared.edit.Edit.{Edit}
use Rattle.page_store.specs.declared.fault.KeeperFault.{KeeperFault}
use Rattle.page_store.specs.declared.fault.KeeperFault.TheVariants.{Failed}

-- what was found of pairs at a key, by its length and the buffer that it was put into
abbrev pub IsValueAt : List ℕ → List ℕ → Option ℕ → List Pair → Type 0
IsValueAt key buffer found pairs = option_map (λ n. take n buffer) found ≡ value_at pairs key

-- what was found of pairs above a key, by its lengths and the buffers that it was put into
abbrev pub IsPairAfter : List ℕ → List ℕ → List ℕ → Option (ℕ × ℕ) → List Pair → Type 0
IsPairAfter after key value found pairs = option_map (λ n. (take n.0 key, take n.1 value)) found ≡ pair_after pairs after

-- A value is put into the front of a buffer. What stands behind it stays, and all where nothing is found or a fault comes.
pub record FillsBuffer {E : Type 0} (result : Result (Option ℕ) E) (old new : List ℕ) : Type 0 where
  pub within : IfOk result (λ found. IfSome found (λ n. n ≤ length new))
  pub behind : IsFilled (λ n. n) result old new

-- The same of a key and a value, each in a buffer of its own.
pub record FillsBuffers {E : Type 0} (result : Result (Option (ℕ × ℕ)) E) (key_old key_new value_old value_new : List ℕ) : Type 0 where
  pub within : IfOk result (λ found. IfSome found (λ n. (n.0 ≤ length key_new) × (n.1 ≤ length value_new)))
  pub key : IsFilled (λ n. n.0) result key_old key_new
  pub value : IsFilled (λ n. n.1) result value_old value_new

-- What a call that reads leaves: what is held stays, a batch may need as much as before, and nothing was written.
pub record StoreReadsOnly {K L : Type 0} (store_state : K → StoreState) (may_need : K → List Edit → CommitNeed → Type 0) (crash_states : K → CrashStates L) (old new : K) : Type 0 where
  pub read : StoreHasRead (store_state old) (store_state new)
  pub need : NeedsTheSame (may_need old) (may_need new)
  pub no_new_crash_state : IsTrue (store_state old).honest → AddsNone (crash_states old) (crash_states new)

-- A call that reads fails by its cause alone, and a read that failed is counted. A closed keeper answers `Failed`, and stays as it is.
pub record FailsToLookUp {T : Type 0} (old new : StoreState) (result : Result T KeeperFault) : Type 0 where
  pub cause : IfErr result (IsStoreReadFault old new)
  pub reads : CountsStoreReads result old.failed_reads new.failed_reads
  pub closed : old.usable ≡ false → IsErrOf result Failed
  pub unchanged : old.usable ≡ false → new ≡ old
