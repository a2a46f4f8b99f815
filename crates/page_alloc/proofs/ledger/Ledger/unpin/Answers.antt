use Rattle.std.proofs.Common.{◌≡◌, ◌<◌, ℕ, List, length, get_or, set, None, sym, ap, ◌∙◌, arith}
use Rattle.page_alloc.specs.declared.life.Life.{Life}
use Rattle.page_alloc.specs.declared.life.Life.TheVariants.{Never}
use Rattle.page_alloc.specs.LedgerState.{Mark}
use Rattle.page_alloc.specs.Calls.{unpinned}
use Rattle.page_alloc.specs.Kept.{mark_at, marks_of, swept}
use Rattle.page_alloc.specs.Runs.{use_of}
use Rattle.page_alloc.proofs.ConsistentLedgers.{keeps_unpinned}
use Rattle.page_alloc.proofs.Marks.{marks_are, marks_count, mark_get, swept_keeps_marks}
use Rattle.page_alloc.proofs.ledger.Ledger.unpin.Goals as goal

pub invariant_of-self : goal.invariant_of-self
invariant_of-self c =
    let a = c.self.inside in
    let b = c.sweep.new.runs in
    let passed = c.deref.ensures.value in
    keeps_unpinned a.runs.starts b.starts a.runs.order.places.items b.order.places.items (length a.runs.order.pages.items) (length b.order.pages.items) a.lives.items a.generation a.pins c.into_number-number.result c.self.invariant c.sweep.ensures.size
    (λ p lt. c.sweep.ensures.uses p (omega (arith, lt, ap length passed, c.self.invariant.size)) ∙ ap (λ (ls : List Life). swept (set a.pins c.into_number-number.result None) (get_or ls p Never) (use_of a.runs.starts a.runs.order.places.items p)) passed)

pub returns : goal.returns
returns c =
    let a = c.self.inside in
    let b = c.sweep.new.runs in
    let pins = set a.pins c.into_number-number.result None in
    let count = marks_count a.runs.starts a.runs.order.places.items in
    let sizes : length b.order.places.items ≡ length a.runs.order.places.items = b.order.inverse.same ∙ c.sweep.ensures.size ∙ sym a.runs.order.inverse.same in
    let marks = marks_are b.starts b.order.places.items (marks_of a.runs.starts a.runs.order.places.items) (sizes ∙ sym count)
    (λ p lt.
    let inside : p < length a.runs.order.places.items = omega (arith, lt, count) in
    ap mark_at (c.sweep.ensures.uses p (omega (arith, inside, ap length c.deref.ensures.value, c.self.invariant.size, a.runs.order.inverse.same)))
    ∙ swept_keeps_marks pins (get_or c.deref.result.now p Never) (use_of a.runs.starts a.runs.order.places.items p)
    ∙ sym (mark_get a.runs.starts a.runs.order.places.items p inside)) in
    ap (λ (ms : List Mark). record { lives = a.lives.items; marks = ms; generation = a.generation; pins = pins }) marks
    ∙ ap (λ (number : ℕ). record { lives = a.lives.items; marks = marks_of a.runs.starts a.runs.order.places.items; generation = a.generation; pins = set a.pins number None }) c.into_number-number.ensures.number
    ∙ ap (unpinned c.args.pin) c.self.view_is
