use Rattle.std.proofs.Common.{List, sym, ap, ◌∙◌}
use Rattle.page_alloc.specs.LedgerState.{Mark}
use Rattle.page_alloc.specs.Calls.{abandoned}
use Rattle.page_alloc.specs.Kept.{mark_at}
use Rattle.page_alloc.specs.Runs.{use_of}
use Rattle.page_alloc.proofs.Marks.{marks_gone, undone_is_unmarked}
use Rattle.page_alloc.proofs.ledger.Ledger.abandon.Goals as goal

pub returns : goal.returns
returns c =
    let a = c.self.inside in
    let b = c.abandon.new.self in
    let marks = marks_gone a.runs.starts b.starts a.runs.order.places.items b.order.places.items (b.order.inverse.same ∙ c.abandon.ensures.size ∙ sym a.runs.order.inverse.same)
    (λ p lt. ap mark_at (c.abandon.ensures.uses p) ∙ undone_is_unmarked (use_of a.runs.starts a.runs.order.places.items p)) in
    ap (λ (ms : List Mark). record { lives = a.lives.items; marks = ms; generation = a.generation; pins = a.pins }) marks ∙ ap abandoned c.self.view_is
