-- A commit of the batch that makes some edits.
use Rattle.std.proofs.Common.{◌≡◌, ℕ, List, length, subst}
use Rattle.std.specs.Prelude.{Result, Ok, Err, IsTrue, OnOk, IfErr}
use Rattle.page_store.specs.Batch.{is_batch}
use Rattle.page_store.specs.CommitCalls.{CommitsBatch, FailsToCommit}
use Rattle.page_store.specs.StoreState.{StoreState, CommitNeed, IsCommitFault}
use Rattle.page_store.specs.declared.banner.Banner.{Banner}
use Rattle.page_store.specs.declared.edit.Edit.{Edit}
use Rattle.page_store.specs.declared.fault.KeeperFault.{KeeperFault}
use Rattle.page_store.specs.declared.fault.KeeperFault.TheVariants as kinds

-- what a batch may need, with that it is one
abbrev pub NeedsAsBatch : (List Edit → CommitNeed → Type 0) → List Edit → CommitNeed → Type 0
NeedsAsBatch may batch need = IsTrue (is_batch batch) × may batch need

fault_of_batch : (old new : StoreState) (edits : ℕ) (may : List Edit → CommitNeed → Type 0) (batch : List Edit) (e : KeeperFault) → IsTrue (is_batch batch) → IsCommitFault old new edits (may batch) e → IsCommitFault old new edits (NeedsAsBatch may batch) e
fault_of_batch old new edits may batch kinds.Device is h = h
fault_of_batch old new edits may batch kinds.NoImage is h = h
fault_of_batch old new edits may batch kinds.Version is h = h
fault_of_batch old new edits may batch (kinds.Damaged page) is h = h
fault_of_batch old new edits may batch kinds.Small is h = h
fault_of_batch old new edits may batch kinds.Spent is h = h
fault_of_batch old new edits may batch kinds.Deep is h = (h.0, λ honest. let deep = h.1 honest in (deep.0, (is, deep.1)))
fault_of_batch old new edits may batch (kinds.Full need free) is h = (h.0, h.1, h.2, λ honest. (is, h.3 honest))
fault_of_batch old new edits may batch kinds.Failed is h = h
fault_of_batch old new edits may batch kinds.Memory is h = h

pub batch_committed : {U : Type 0} (r : Result U KeeperFault) (old new : StoreState) (seen batch : List Edit) (banner : Banner) (may : List Edit → CommitNeed → Type 0) → seen ≡ batch → IsTrue (is_batch seen) → OnOk r (CommitsBatch old new seen banner (may seen)) → OnOk r (CommitsBatch old new batch banner (NeedsAsBatch may batch))
batch_committed (Ok u) old new seen batch banner may same is h = subst (λ (b : List Edit). CommitsBatch old new b banner (NeedsAsBatch may b)) same record {
  done = h.done;
  banner = h.banner;
  still_usable = h.still_usable;
  rises = h.rises;
  generation = h.generation;
  out = h.out;
  pins = h.pins;
  fits = λ honest. let fits = h.fits honest in (fits.0, (is, fits.1), fits.2);
}
batch_committed (Err e) old new seen batch banner may same is h = tt

pub batch_failed : {U : Type 0} (r : Result U KeeperFault) (old new : StoreState) (seen batch : List Edit) (may needs now : List Edit → CommitNeed → Type 0) → seen ≡ batch → IsTrue (is_batch seen) → IfErr r (FailsToCommit old new (length seen) (may seen) needs now) → IfErr r (FailsToCommit old new (length batch) (NeedsAsBatch may batch) needs now)
batch_failed (Ok u) old new seen batch may needs now same is h = tt
batch_failed (Err e) old new seen batch may needs now same is h = subst (λ (b : List Edit). FailsToCommit old new (length b) (NeedsAsBatch may b) needs now e) same record {
  cause = fault_of_batch old new (length seen) may seen e is h.cause;
  need = h.need;
  tight = λ honest usable shut. let fits = h.tight honest usable shut in (fits.0, (is, fits.1), fits.2);
}
