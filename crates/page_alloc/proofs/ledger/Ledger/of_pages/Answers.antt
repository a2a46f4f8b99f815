use Rattle.std.proofs.Common.{ℕ, List, None, length, replicate, sym, ap, ◌∙◌, subst}
use Rattle.page_alloc.specs.declared.life.Life.{Life}
use Rattle.page_alloc.specs.declared.life.Life.TheVariants.{Never}
use Rattle.page_alloc.specs.LedgerState.{Mark}
use Rattle.page_alloc.specs.Kept.{KeepsLedger, state}
use Rattle.page_alloc.proofs.ConsistentLedgers.{keeps_fresh}
use Rattle.page_alloc.proofs.Marks.{marks_none}
use Rattle.page_alloc.proofs.ledger.Ledger.of_pages.Goals as goal

pub invariant_of-result : goal.invariant_of-result
invariant_of-result c =
    let runs = c.in_ok-runs.runs in
    let size = c.in_ok-runs.ensures.size in
    subst (λ (ls : List Life). KeepsLedger runs.starts runs.order.places.items (length runs.order.pages.items) ls c.args.generation (replicate 32 None)) (sym c.in_ok-lives.ensures)
    (subst (λ (n : ℕ). KeepsLedger runs.starts runs.order.places.items n (replicate c.args.pages Never) c.args.generation (replicate 32 None)) (sym size) (keeps_fresh runs.starts runs.order.places.items c.args.pages c.args.generation c.in_ok-runs.ensures.uses))

pub returns : goal.returns
returns c =
    let runs = c.in_ok-runs.runs in
    let size = c.in_ok-runs.ensures.size in
    let marks = marks_none runs.starts runs.order.places.items c.args.pages (runs.order.inverse.same ∙ size) c.in_ok-runs.ensures.uses in
    ap (λ (ls : List Life). state runs.starts runs.order.places.items ls c.args.generation (replicate 32 None)) c.in_ok-lives.ensures
    ∙ ap (λ (ms : List Mark). record { lives = replicate c.args.pages Never; marks = ms; generation = c.args.generation; pins = replicate 32 None }) marks
