-- What a keeper of a tree is after its device was read.
use Rattle.std.proofs.Common.{List, ◌≡◌, ℕ, ◌≤◌, Bool, true, false, Option, Err, refl, sym, ap, subst, arith, IsTrue}
use Rattle.common_types.specs.Counts.{counted_rises}
use Rattle.sector_device.specs.Device.{State}
use Rattle.sector_device.specs.Disk.{Disk}
use Rattle.sector_device.specs.Effects.{OnlyReads}
use Rattle.page_alloc.specs.LedgerState.{LedgerState}
use Rattle.page_store.specs.StoreState.{NeedsTheSame, StoreHasRead, IsStoreReadFault}
use Rattle.page_store.specs.Compaction.{CompactsTheSame}
use Rattle.page_store.specs.Counting.{CountsStoreReads}
use Rattle.page_store.specs.declared.slot.Slot.{Slot}
use Rattle.cow_tree.specs.Walks.{CountsPages}
use Rattle.cow_tree.specs.Ways.{AnswersBy}
use Rattle.cow_tree.specs.Opening.{fault_of}
use Rattle.cow_tree.specs.Needs.{MayNeed, NeedsThis}
use Rattle.cow_tree.specs.Compacting.{MayNeedFilled, NeedsFilled}
use Rattle.cow_tree.specs.PinnedTrees.{pins_from}
use Rattle.cow_tree.specs.TreeState.{found_under, tree_holding}
use Rattle.cow_tree.specs.declared.tree_root.TreeRoot.{TreeRoot}
use Rattle.cow_tree.proofs.PinnedTrees.{same_numbers}
use Rattle.cow_tree.proofs.WorkDone.{nothing_written}
use Rattle.cow_tree.specs.declared.page_fault.PageFault.{PageFault}
use Rattle.cow_tree.specs.declared.page_fault.PageFault.TheVariants.{Device, Damaged}

module _ (old new : State) (slot : Slot) (ledger : LedgerState) (top : ℕ) (usable : Bool) (trees : List (Option TreeRoot)) (only : OnlyReads old new) where
  pub has_read : old.failed_reads ≤ new.failed_reads → StoreHasRead (tree_holding old slot ledger top usable trees) (tree_holding new slot ledger top usable trees)
  has_read rises = record {
    same = record {
      pairs = λ keeps. ap (λ (d : Disk). (found_under slot d.view).pairs) (only.disk keeps);
      banner = refl;
      usable = refl;
      generation = refl;
      top = refl;
      free = refl;
      height = refl;
      keys = refl;
      out = same_numbers new.disk.view old.disk.view 0 trees;
      pins = λ keeps. ap (λ (d : Disk). pins_from d.view 0 trees) (only.disk keeps);
      calls = nothing_written only.made;
    };
    honest = only.same.honest;
    reads = rises;
    writes = only.writes;
  }

  pub read_fault : (T : Type 0) (e : PageFault) (P : T → Type 0) → CountsPages {T = T} (Err e) old.failed_reads new.failed_reads → (IsTrue old.honest → AnswersBy {T = T} (Err e) P)
      → IsStoreReadFault (tree_holding old slot ledger top usable trees) (tree_holding new slot ledger top usable trees) (fault_of e)
  read_fault T Device P counts answered = counts
  read_fault T (Damaged page) P counts answered = lies old.honest answered
    where
      lies : (b : Bool) → (IsTrue b → ⊥) → b ≡ false
      lies true h = absurd (h refl)
      lies false h = refl

-- a batch needs the same after a read as before it
pub needs_again : (old new : State) (slot : Slot) → OnlyReads old new → NeedsTheSame (λ batch need. MayNeed slot old batch need) (λ batch need. MayNeed slot new batch need)
needs_again old new slot only = record {
  after = λ batch need before now. let keeps = subst IsTrue only.same.honest now in subst (λ (d : Disk). NeedsThis slot d.view batch need) (sym (only.disk keeps)) (before keeps);
  before = λ batch need after keeps. subst (λ (d : Disk). NeedsThis slot d.view batch need) (only.disk keeps) (after (subst IsTrue (sym only.same.honest) keeps));
}

-- writing all pairs anew needs as much after a read as before it
pub fills_again : (old new : State) (slot : Slot) → OnlyReads old new → CompactsTheSame (MayNeedFilled slot old) (MayNeedFilled slot new)
fills_again old new slot only = record {
  after = λ need before now. let keeps = subst IsTrue only.same.honest now in subst (λ (d : Disk). NeedsFilled slot d.view need) (sym (only.disk keeps)) (before keeps);
  before = λ need after keeps. subst (λ (d : Disk). NeedsFilled slot d.view need) (only.disk keeps) (after (subst IsTrue (sym only.same.honest) keeps));
}

pub counts_rise : (T : Type 0) (e : PageFault) (before now : ℕ) → CountsPages {T = T} (Err e) before now → before ≤ now
counts_rise T Device before now h = subst (λ (n : ℕ). before ≤ n) (sym h) (counted_rises before)
counts_rise T (Damaged page) before now h = omega (arith, h)

-- a read that failed is counted by the keeper as by its pages
pub counts_as : (T : Type 0) (e : PageFault) (before now : ℕ) → CountsPages {T = T} (Err e) before now → CountsStoreReads {T = T} (Err (fault_of e)) before now
counts_as T Device before now h = h
counts_as T (Damaged page) before now h = h
