use Rattle.std.proofs.Common.{◌+◌, ◌*◌, ◌++◌, ℕ, List, drop, sym, ap, ◌∙◌, arith}
use Rattle.page_store.specs.Sectors.{sector}
use Rattle.page_store.proofs.SectorRows.{record_from_push}
use Rattle.page_store.proofs.roots.record_of.Goals as goal

pub loop-k-preserved : goal.loop-k-preserved
loop-k-preserved c =
    let push = record_from_push c.args.sectors.now c.loop-k.k (8 * c.args.slot) in
    record { items = c.push_part.ensures.items ∙ ap (λ (x : List ℕ). x ++ drop 24 (sector c.args.sectors.now (8 * c.args.slot + c.loop-k.k))) c.loop-k.invariant.items ∙ sym push; size = omega (arith, c.push_part.ensures.length, c.loop-k.invariant.size) }
