use Rattle.std.proofs.Common.{ap, arith}
use Rattle.page_alloc.specs.LedgerState.{free_count}
use Rattle.page_alloc.proofs.Uses.{free_count_is}
use Rattle.page_alloc.proofs.ledger.Ledger.free.Goals as goal

pub returns : goal.returns
returns c =
    let a = c.self.inside in
    let count = free_count_is a.runs.starts a.runs.order.pages.items a.runs.order.places.items a.lives.items a.generation a.pins a.runs.order.inverse a.runs.runs c.self.invariant in
    let same = ap free_count c.self.view_is in
    omega (arith, count, same, c.free.ensures)
