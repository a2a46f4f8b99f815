use Rattle.std.proofs.Common.{◌+◌, sym, ap, ◌∙◌}
use Rattle.page_alloc.specs.LedgerState.{LedgerState, free_count}
use Rattle.cow_tree.proofs.Reaching.{free_less}
use Rattle.cow_tree.proofs.opening_walk.reach.Goals as goal

pub returns-clause-count : goal.returns-clause-count
returns-clause-count c = free_less c.args.ledger.now c.args.page (sym c.is_free.ensures ∙ c.if-not-is_free.false) ∙ ap (λ (s : LedgerState). free_count s + 1) (sym c.hold.ensures)
