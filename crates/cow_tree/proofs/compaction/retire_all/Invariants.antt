use Rattle.std.proofs.Common.{◌≡◌, ◌<◌, ℕ, false}
use Rattle.page_alloc.specs.LedgerState.{is_alive, is_taken, mark_of}
use Rattle.cow_tree.specs.Drafts.{OnlyRetires}
use Rattle.cow_tree.proofs.compaction.retire_all.Given as goal

abbrev pub invariant-loop-page : goal.invariant-loop-page
invariant-loop-page l = record {
  only : OnlyRetires l.fn.ledger l.ledger;
  dead : (n : ℕ) → n < l.page → is_alive l.ledger n ≡ false;
  untaken : ((n : ℕ) → is_taken (mark_of l.fn.ledger n) ≡ false) → (n : ℕ) → is_taken (mark_of l.ledger n) ≡ false;
}
