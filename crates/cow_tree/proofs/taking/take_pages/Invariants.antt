use Rattle.std.proofs.Common.{◌≡◌, ◌+◌}
use Rattle.page_alloc.specs.LedgerState.{free_count}
use Rattle.cow_tree.specs.Drafts.{OnlyMarks}
use Rattle.cow_tree.specs.Taken.{TakesPages}
use Rattle.cow_tree.proofs.taking.take_pages.Given as goal

abbrev pub invariant-loop-so_far : goal.invariant-loop-so_far
invariant-loop-so_far l = record {
  taken : TakesPages l.so_far l.fn.ledger l.ledger l.pages.items;
  left : free_count l.ledger + l.so_far ≡ free_count l.fn.ledger;
  marks : OnlyMarks l.fn.ledger l.ledger;
}
