use Rattle.page_alloc.proofs.ConsistentLedgers.{keeps_pinned}
use Rattle.std.proofs.Common.{length}
use Rattle.page_alloc.proofs.ledger.Ledger.pin.Goals as goal

pub invariant_of-self : goal.invariant_of-self
invariant_of-self c =
    let a = c.self.inside in
    keeps_pinned a.runs.starts a.runs.order.places.items (length a.runs.order.pages.items) a.lives.items a.generation a.pins c.in-Some.number c.self.invariant c.in-Some.ensures.1
